-- The viewed blocks are the padded message's. Assumes nothing.
use Prim.Native.Nat.{ℕ, zero, suc, ◌+◌, ◌*◌, ◌-◌, ◌/◌, ◌<◌, ◌≤◌}
use mathlib.Core.Path.{◌≡◌, refl, sym, ap, ◌∙◌}
use mathlib.Core.List.{List, ◌++◌}
use native.Mathlib.Decide.{dec_lt}
use native.Mathlib.Omega.{arith}
use lib.ListN.{length, take, drop, length-drop, take-append-drop}
use lib.Seq.{take-append-le, drop-append-le, drop-append-add, take-add, take_all, length-take-le}
use Rattle.refusal.specs.Table.{accepted}
use Rattle.buffers.proofs.Comparing.{same_equal, equal_same}
use Rattle.padding.specs.Padding.{padding, padded, block_count}
use Rattle.padding.specs.Writing.{tail_of, tail_size}
use Rattle.padding.proofs.Tails.{fills_blocks}
use Rattle.padding.proofs.Wholes.{padded_length, tail_length, whole_and_tail}
use Rattle.padded.specs.Viewing.{view_number, view_part}
use Rattle.padded.specs.Promises.{viewed_blocks, Tailed}
use Rattle.padded.proofs.Viewed.{viewed, view_accepts}
use Rattle.padded.proofs.Placed.{part_in_message, part_in_buffer}

-- 64 bytes that lie wholly in the first of two lists
lies_in : (a c : List ℕ) (j : ℕ) → j + 64 ≤ length a → take 64 (drop j (a ++ c)) ≡ take 64 (drop j a)
lies_in a c j h =
    rw (drop-append-le j a c (omega arith)) (take-append-le 64 (drop j a) c (omega (arith, length-drop j a)))

module _ (s b : List ℕ) (i : ℕ) (ok : view_number s b i ≡ accepted) where
  in_message_lem : i < length s / 64 → view_part s b i ≡ take 64 (drop (64 * i) (padded s))
  unfolding padded
  in_message_lem h = part_in_message s b i ok h ∙ sym (lies_in s (padding (length s)) (64 * i) (omega arith))

  in_buffer_lem : length s / 64 ≤ i → view_part s b i ≡ take 64 (drop (64 * i) (padded s))
  in_buffer_lem h =
      let known = viewed s b i ok in
      let j = 64 * (i - length s / 64) in
      let front = take (length s / 64 * 64) s in
      let far : length front ≡ length s / 64 * 64 = length-take-le (length s / 64 * 64) s (omega arith) in
      let place : 64 * i ≡ length front + j = omega arith in
      let room : j + 64 ≤ length (tail_of s) = omega (arith, tail_length s, fills_blocks (length s)) in
      let whole : b ≡ tail_of s ++ drop (tail_size (length s)) b
      = sym (take-append-drop (tail_size (length s)) b) ∙ ap (λ l. l ++ drop (tail_size (length s)) b) (same_equal _ _ known.tail) in
      rw (← (whole_and_tail s), place, drop-append-add front (tail_of s) j)
      (part_in_buffer s b i ok h ∙ ap (λ l. take 64 (drop j l)) whole ∙ lies_in (tail_of s) (drop (tail_size (length s)) b) j room)

  pub block_is : view_part s b i ≡ take 64 (drop (64 * i) (padded s))
  block_is = by (dec_lt i (length s / 64))
    where
      by : Dec (i < length s / 64) → view_part s b i ≡ take 64 (drop (64 * i) (padded s))
      by (yes h) = in_message_lem h
      by (no h) = in_buffer_lem (omega arith)

-- the first n of them
first_blocks : (s b : List ℕ) → Tailed s b → (n : ℕ) → n ≤ block_count (length s) → viewed_blocks n s b ≡ take (64 * n) (padded s)
unfolding viewed_blocks
first_blocks s b t zero h = refl
first_blocks s b t (suc n) h =
    let ok = view_accepts s b n t.short t.roomy (equal_same _ _ t.tail) (omega arith) in
    let more : 64 * suc n ≡ 64 * n + 64 = omega arith in
    rw (more, take-add (64 * n) 64 (padded s), first_blocks s b t n (omega arith), block_is s b n ok)

pub all_blocks : (s b : List ℕ) → Tailed s b → viewed_blocks (block_count (length s)) s b ≡ padded s
all_blocks s b t =
    first_blocks s b t (block_count (length s)) (omega arith)
    ∙ take_all (64 * block_count (length s)) (padded s) (omega (arith, padded_length s))
