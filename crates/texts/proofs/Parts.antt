-- A part put behind a text: where it fits, and where it does not. Assumes nothing.
use Prim.Native.Nat.{ℕ, ◌+◌, ◌-◌, ◌≤◌, ◌<◌}
use mathlib.Core.Path.{◌≡◌, refl, ap, ◌∙◌}
use mathlib.Core.List.{List, [], ◌++◌, append_assoc}
use mathlib.Core.Logic.{⊎_elim}
use native.Mathlib.Nat.{add-zero}
use native.Mathlib.Omega.{arith}
use borrow.Author.Tests.{le-leb, lt-leb}
use lib.ListN.{length, take, drop, replicate, length-append, length-drop, length-replicate}
use lib.Seq.{take_at, drop-drop, drop-append-add, length-take-le}
use Rattle.truth.proofs.Tests.{below_or_not}
use Rattle.buffers.specs.Copy.{copied}
use Rattle.buffers.proofs.Copied.{copied_there}
use Rattle.buffers.proofs.Zeros.{copied_none}
use Rattle.texts.specs.Texts.{empty_text, with_part, text_of, said}
use Rattle.texts.specs.Promises.{Sound}
use Rattle.texts.specs.declared.Text.{Text}

module _ (t : Text) (part : List ℕ) where
  pub part_fits : t.length + length part ≤ 1024
      → with_part t part ≡ record { bytes = copied t.bytes t.length part; length = t.length + length part }
  unfolding with_part
  part_fits fits = rw (le-leb (t.length + length part) 1024 fits)

  pub part_not : 1024 < t.length + length part → with_part t part ≡ t
  unfolding with_part
  part_not past = rw (lt-leb (t.length + length part) 1024 past)

  -- a part that was copied where it fits
  pub part_copied : (bytes : List ℕ) → bytes ≡ copied t.bytes t.length part → t.length + length part ≤ 1024
      → record { bytes = bytes; length = t.length + length part } ≡ with_part t part
  part_copied bytes so fits = rw (so, part_fits fits)

  module _ (s : Sound t) (fits : t.length + length part ≤ 1024) where
    laid : copied t.bytes t.length part ≡ take t.length t.bytes ++ (part ++ drop (t.length + length part) t.bytes)
    laid = copied_there t.bytes part t.length (let room = s.room in omega arith)

    front : length (take t.length t.bytes) ≡ t.length
    front = length-take-le t.length t.bytes (let room = s.room in let within = s.within in omega arith)

    pub part_placed : with_part t part
        ≡ record {
          bytes = take t.length t.bytes ++ (part ++ drop (t.length + length part) t.bytes);
          length = t.length + length part;
        }
    part_placed = rw (part_fits fits, laid)

    pub part_said : said (with_part t part) ≡ said t ++ part
    unfolding said
    part_said =
        rw (part_fits fits, laid, ← (append_assoc (take t.length t.bytes) part (drop (t.length + length part) t.bytes)))
        (take_at (take t.length t.bytes ++ part) (drop (t.length + length part) t.bytes) (t.length + length part)
        (length-append (take t.length t.bytes) part ∙ ap (λ (n : ℕ). n + length part) front))

    pub part_sound : Sound (with_part t part)
    part_sound =
        rw (part_fits fits)
        (record {
          room = rw laid (omega (arith, front, s.room, length-append (take t.length t.bytes) (part ++ drop (t.length + length part) t.bytes), length-append part (drop (t.length + length part) t.bytes), length-drop (t.length + length part) t.bytes));
          within = fits;
        })

pub sound_part : (t : Text) (part : List ℕ) → Sound t → Sound (with_part t part)
sound_part t part s =
    ⊎_elim (λ past. rw (part_not t part past) s) (λ fits. part_sound t part s fits) (below_or_not 1024 (t.length + length part))

pub sound_empty : Sound empty_text
unfolding empty_text
sound_empty = record { room = length-replicate {A = ℕ} 1024 0; within = omega arith }

pub said_bytes : (bytes : List ℕ) → said (text_of bytes) ≡ bytes
unfolding text_of said
said_bytes bytes = take_at bytes (drop (length bytes) (replicate 1024 0)) (length bytes) refl

pub of_none : text_of [] ≡ empty_text
unfolding text_of empty_text
of_none = refl

pub joined : (one other : List ℕ) → length one + length other ≤ 1024 → with_part (text_of one) other ≡ text_of (one ++ other)
unfolding text_of
joined one other fits =
    let zeros : List ℕ = replicate 1024 0 in
    let long : length zeros ≡ 1024 = length-replicate {A = ℕ} 1024 0 in
    let whole : length (one ++ other) ≡ length one + length other = length-append one other in
    let left : length (drop (length one) zeros) ≡ 1024 - length one = omega (arith, length-drop (length one) zeros) in
    let room : length one + length other ≤ length (one ++ drop (length one) zeros) =
    omega (arith, length-append one (drop (length one) zeros)) in
    let rest : drop (length one + length other) (one ++ drop (length one) zeros) ≡ drop (length one + length other) zeros =
    drop-append-add one (drop (length one) zeros) (length other) ∙ drop-drop (length other) (length one) zeros in
    rw whole
    (part_fits (record { bytes = one ++ drop (length one) zeros; length = length one }) other fits
    ∙ rw (
      copied_there (one ++ drop (length one) zeros) other (length one) room,
      take_at one (drop (length one) zeros) (length one) refl,
      rest,
      append_assoc one other (drop (length one + length other) zeros),
    ))

-- one part more of a text that is known
pub next : {t u : Text} (front part : List ℕ) → t ≡ text_of front → u ≡ with_part t part → length front + length part ≤ 1024
    → u ≡ text_of (front ++ part)
next front part e f fits = f ∙ rw e (joined front part fits)

-- no part
pub part_none : (t : Text) → with_part t [] ≡ t
part_none t =
    ⊎_elim (part_not t [])
    (λ fits. part_fits t [] fits ∙ rw (copied_none t.bytes t.length, add-zero t.length))
    (below_or_not 1024 (t.length + 0))

-- the text of any bytes ends within its room
pub text_within : (t : Text) (bytes : List ℕ) → t ≡ text_of bytes → t.length ≤ length t.bytes
unfolding text_of
text_within t bytes e = rw (e, length-append) (omega arith)

pub sound_within : (t : Text) → Sound t → t.length ≤ length t.bytes
sound_within t s = let room = s.room in let within = s.within in omega arith
