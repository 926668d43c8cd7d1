-- What the writer leaves for a message, and how its tail makes the padded message whole. Assumes nothing.
use Prim.Native.Nat.{ℕ, ◌+◌, ◌*◌, ◌-◌, ◌/◌, ◌%◌, ◌≤◌}
use mathlib.Core.Path.{◌≡◌, sym, ap, ◌∙◌}
use mathlib.Core.List.{List, ◌++◌, append_assoc}
use native.Mathlib.Omega.{arith}
use borrow.Author.Tests.{eq-eqb, ne_eqb}
use lib.ListN.{length, take, drop, length-append, length-take, length-drop, take-append-drop}
use lib.Seq.{take_all, take_at, drop-append-add, drop-drop, length-take-le}
use Rattle.refusal.specs.Table.{accepted}
use Rattle.standard.specs.Standard.{rest}
use Rattle.standard.proofs.Folding.{length_rest}
use Rattle.refusal.specs.declared.Written.{Written}
use Rattle.padding.specs.Padding.{padding, padded, block_count}
use Rattle.padding.specs.Writing.{tail_of, tail_size, tail_answer, tail_after, written, buffer_after}
use Rattle.padding.proofs.Tails.{fills, fills_blocks, fills_tail, accepted_when, after}

-- The message's own bytes in front: the part after its last whole block.
module _ (s : List ℕ) where
  abbrev pub last_part : List ℕ
  last_part = take (length s - length s / 64 * 64) (drop (length s / 64 * 64) s)

  pub last_part_lem : last_part ≡ rest s
  unfolding rest
  last_part_lem = take_all (length s - length s / 64 * 64) (drop (length s / 64 * 64) s) (omega (arith, length-drop (length s / 64 * 64) s))

  pub last_length : length last_part ≡ length s % 64
  last_length = rw (length-take, length-drop (length s / 64 * 64) s) (omega arith)

  -- refused: nothing is written
  pub unwritten : (buffer : List ℕ) (answer : Written) → answer ≡ tail_answer (length s) (length buffer) → (answer.number ≡ accepted → ⊥) → buffer ≡ buffer_after s buffer
  unfolding buffer_after written
  unwritten buffer answer is h = simp (ne_eqb (tail_answer (length s) (length buffer)).number accepted (λ z. h (ap (λ r. r.number) is ∙ z)))

  module _ (buffer : List ℕ) (answer : Written) (is : answer ≡ tail_answer (length s) (length buffer)) (ok : answer.number ≡ accepted) where
    pub last_fits : length s - length s / 64 * 64 ≤ length buffer
    last_fits = let known = accepted_when (length s) (length buffer) answer is ok in omega (arith, fills (length s))

    module _ (laid : List ℕ) (lies : laid ≡ last_part ++ drop (length last_part) buffer) where
      as_long : length laid ≡ length buffer
      as_long = rw lies (omega (arith, length-append last_part (drop (length last_part) buffer), length-drop (length last_part) buffer, last_length, last_fits))

      in_front : take (length s % 64) laid ≡ rest s
      in_front = rw lies (take_at last_part (drop (length last_part) buffer) (length s % 64) last_length ∙ last_part_lem)

      later : drop (tail_size (length s)) laid ≡ drop (tail_size (length s)) buffer
      later =
          let k = tail_size (length s) - length last_part in
          let parts : tail_size (length s) ≡ length last_part + k = omega (arith, last_length, fills (length s)) in
          rw (parts, lies, drop-append-add last_part (drop (length last_part) buffer) k, drop-drop k (length last_part) buffer)

      pub written_is : tail_answer (length s) (length laid) ≡ written s buffer
      unfolding written
      written_is = rw as_long

      pub written_leaves : tail_after (length s) laid ≡ buffer_after s buffer
      unfolding buffer_after tail_of written
      written_leaves =
          after (length s) laid answer (is ∙ ap (tail_answer (length s)) (sym as_long)) ok
          ∙ rw (in_front, later, eq-eqb (tail_answer (length s) (length buffer)).number accepted (ap (λ r. r.number) (sym is) ∙ ok))
          (sym (append_assoc (rest s) (padding (length s)) (drop (tail_size (length s)) buffer)))

-- accepted: what the writer leaves
pub tail_written : (s buffer : List ℕ) → (written s buffer).number ≡ accepted → buffer_after s buffer ≡ tail_of s ++ drop (tail_size (length s)) buffer
unfolding buffer_after
tail_written s buffer ok = rw (eq-eqb (written s buffer).number accepted ok)

-- the lengths of a padded message and of its tail
pub padded_length : (s : List ℕ) → length (padded s) ≡ 64 * block_count (length s)
unfolding padded
padded_length s = omega (arith, length-append s (padding (length s)), fills_tail (length s), fills_blocks (length s))

pub tail_length : (s : List ℕ) → length (tail_of s) ≡ tail_size (length s)
unfolding tail_of
tail_length s = omega (arith, length-append (rest s) (padding (length s)), length_rest s, fills_tail (length s))

-- the message's whole blocks and its tail
pub whole_and_tail : (s : List ℕ) → take (length s / 64 * 64) s ++ tail_of s ≡ padded s
unfolding tail_of padded rest
whole_and_tail s =
    sym (append_assoc (take (length s / 64 * 64) s) (drop (length s / 64 * 64) s) (padding (length s)))
    ∙ ap (λ l. l ++ padding (length s)) (take-append-drop (length s / 64 * 64) s)
