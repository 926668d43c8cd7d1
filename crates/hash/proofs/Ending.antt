-- The last bytes and their padding, in a buffer of two blocks. Assumes nothing.
use mathlib.Core.Path.{◌≡◌, refl, sym, ap, ◌∙◌}
use mathlib.Core.Logic.{⊎_elim}
use Prim.Native.Nat.{ℕ, ◌%◌, ◌≤◌, ◌<◌}
use native.Mathlib.Omega.{arith}
use mathlib.Core.Bool.{true}
use mathlib.Core.List.{List, ◌++◌, append_assoc}
use lib.Dec.{eqb}
use borrow.Author.Tests.{eq-eqb}
use lib.ListN.{length, take, drop, replicate, length-append, length-drop}
use lib.Seq.{take-append-le, take_at}
use Rattle.std.specs.Prelude.{Result, Ok, Err}
use Rattle.refusal.specs.Table.{accepted, number_by, written_of, refused_by, wrote}
use Rattle.refusal.specs.declared.Refusal.{Refusal}
use Rattle.refusal.proofs.Telling.{not_accepted, told}
use Rattle.buffers.specs.Copy.{copied}
use Rattle.buffers.proofs.Copied.{copied_front}
use Rattle.standard.specs.Standard.{IV, folded, rest, hash_value}
use Rattle.standard.proofs.Folding.{folded_join, length_rest}
use Rattle.units.specs.Units.{longest}
use Rattle.padding.specs.Padding.{padding, padded}
use Rattle.padding.specs.Writing.{tail_of, tail_size, tail_answer, tail_after, written, buffer_after}
use Rattle.refusal.specs.declared.Written.{Written}
use Rattle.padding.proofs.Tails.{Accepted, fills_tail, at_most_128, accepts, refused_long, pads, accepted_when}
use Rattle.hash.specs.Sm3.{sm3}
use Rattle.hash.specs.State.{kept, in_order}
use Rattle.hash.specs.Digests.{digest}
use Rattle.hash.specs.Told.{told_digest}
use Rattle.hash.specs.declared.Hash.{Hash}
use Rattle.hash.proofs.State.{total_le, length_tail, length_kept}
use Rattle.hash.proofs.Refusing.{fits_or_passes}
use Rattle.hash.proofs.Cutting.{digest_passes, digest_sm3}

-- the buffer before anything is put there
abbrev pub blank : List ℕ
blank = replicate 128 0

-- what a fold of a buffer's first bytes needs to know: there are so many, and they are these
pub record Holds (buffer : List ℕ) (count : ℕ) (bytes : List ℕ) : Type 0 where
  pub within : count ≤ length buffer
  pub are : take count buffer ≡ bytes

ok_once : {r : Result ℕ Refusal} {x y : ℕ} → r ≡ Ok x → r ≡ Ok y → x ≡ y
ok_once e f = cc

holds : (s t : List ℕ) (n : ℕ) → length s ≡ n → Holds (s ++ t) n s
holds s t n e = record { within = omega (arith, length-append s t); are = take_at s t n e }

-- A state's tail, copied into the buffer, with the padding behind the kept bytes
module _ (h : Hash) (o : in_order h ≡ true) (b : List ℕ) (so : b ≡ copied blank 0 h.tail) where
  laid : b ≡ h.tail ++ drop (length h.tail) blank
  laid = so ∙ copied_front blank h.tail (omega (arith, length_tail h o))

  long : length b ≡ 128
  long = rw laid (omega (arith, length-append h.tail (drop (length h.tail) blank), length-drop (length h.tail) blank, length_tail h o))

  front : take (h.total % 64) b ≡ kept h
  unfolding kept
  front = rw laid (take-append-le (h.total % 64) h.tail (drop (length h.tail) blank) (omega (arith, length_tail h o)))

  fits : tail_size h.total ≤ length b
  fits = omega (arith, long, at_most_128 h.total)

  -- there is room for it
  pub state_padded : {r : Result ℕ Refusal} → written_of r ≡ tail_answer h.total (length b) → r ≡ Ok (tail_size h.total)
  state_padded e = told _ _ (e ∙ accepts h.total (length b) (total_le h o) fits)

  pub state_holds : (a : List ℕ) {r : Result ℕ Refusal} {count : ℕ} → written_of r ≡ tail_answer h.total (length b) → r ≡ Ok count
      → a ≡ tail_after h.total b
      → Holds a count (kept h ++ padding h.total)
  state_holds a answered counted left =
      let n = tail_size h.total in
      let size : length (kept h ++ padding h.total) ≡ n = omega (arith, length-append (kept h) (padding h.total), length_kept h o, fills_tail h.total) in
      rw (
        left,
        ok_once counted (state_padded answered),
        pads h.total b (total_le h o) fits,
        front,
        ← append_assoc (kept h) (padding h.total) (drop n b),
      )
      (holds _ _ n size)

-- A message's last bytes and its padding, as the writer puts them there
module _ (m : List ℕ) where
  room : tail_size (length m) ≤ 128
  room = omega (arith, at_most_128 (length m))

  -- the buffer is long enough: only a message that is too long is refused
  pub write_refuses : (r : Refusal) → refused_by (number_by r) ≡ written m blank → told_digest (Err r) ≡ digest m
  unfolding written
  write_refuses r e =
      ⊎_elim
      (λ (within : length m ≤ longest). absurd (not_accepted r (ap (λ (w : Written). w.number) (e ∙ accepts (length m) 128 within room))))
      (λ (past : longest < length m). rw (ap (λ (w : Written). w.number) (e ∙ refused_long (length m) 128 past)) (sym (digest_passes m past)))
      (fits_or_passes (length m))

  module _ (a : List ℕ) (count : ℕ) (answered : wrote count ≡ written m blank) (left : a ≡ buffer_after m blank) where
    known : Accepted (length m) 128 (wrote count)
    unfolding written
    known = accepted_when (length m) 128 (wrote count) answered refl

    pub message_holds : Holds a count (tail_of m)
    unfolding buffer_after tail_of
    message_holds =
        let size : length (rest m ++ padding (length m)) ≡ tail_size (length m) = omega (arith, length-append (rest m) (padding (length m)), length_rest m, fills_tail (length m)) in
        let yes : eqb (written m blank).number accepted ≡ true = eq-eqb _ _ (ap (λ (w : Written). w.number) (sym answered)) in
        rw (left, known.size, yes) (holds _ _ _ size)

    pub message_digest : told_digest (Ok (hash_value (folded (folded IV m) (tail_of m)))) ≡ digest m
    unfolding sm3 padded tail_of
    message_digest = rw (digest_sm3 m known.within, folded_join IV m (padding (length m)))
