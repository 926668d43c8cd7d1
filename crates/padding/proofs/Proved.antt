-- The crate's promises, proved. Assumes nothing.
use Prim.Native.Nat.{ℕ, ◌+◌, ◌*◌, ◌/◌, ◌%◌, ◌<◌, ◌≤◌}
use mathlib.Core.Path.{◌≡◌, refl, sym, ap, ◌∙◌}
use mathlib.Core.List.{List, ◌++◌}
use native.Mathlib.Omega.{arith}
use borrow.Author.Tests.{eqb-false}
use lib.ListN.{length, take, drop}
use lib.Seq.{take_at, drop_at}
use Rattle.refusal.specs.Table.{accepted, too_long, wrong_size}
use Rattle.units.specs.Units.{longest}
use Rattle.padding.specs.Padding.{zeros, padding, padded, block_count}
use Rattle.refusal.specs.Table.{refused_by, wrote}
use Rattle.padding.specs.Writing.{tail_of, tail_size, tail_answer, written, buffer_after}
use Rattle.refusal.specs.declared.Written.{Written}
use Rattle.padding.specs.Promises.{Promises}
use Rattle.padding.proofs.Tails.{one_block, two_blocks, cases, refused_long, refused_size, accepts, accepted_when, left_alone, pads}
use Rattle.padding.proofs.Wholes.{padded_length, tail_length, whole_and_tail, unwritten, tail_written}

makes_56 : (m : ℕ) → (m + 1 + zeros m) % 64 ≡ 56
unfolding zeros
makes_56 m = omega arith

fewest : (m z : ℕ) → (m + 1 + z) % 64 ≡ 56 → zeros m ≤ z
unfolding zeros
fewest m z h = omega arith

-- the same in bits: eight for each byte, and seven of the byte 80
in_bits_lem : (m : ℕ) → (8 * m + 1 + (8 * zeros m + 7)) % 512 ≡ 448
in_bits_lem m = let bytes = makes_56 m in omega arith

fewest_in_bits : (m k : ℕ) → (8 * m + 1 + k) % 512 ≡ 448 → 8 * zeros m + 7 ≤ k
fewest_in_bits m k h =
    let whole : (m + 1 + k / 8) % 64 ≡ 56 = omega arith in
    let bytes = fewest m (k / 8) whole in
    omega arith

module _ (s b : List ℕ) where
  writes : (written s b).number ≡ accepted → take (length s / 64 * 64) s ++ take (written s b).count (buffer_after s b) ≡ padded s
  unfolding written
  writes ok =
      let known = accepted_when (length s) (length b) (tail_answer (length s) (length b)) refl ok in
      rw (known.size, tail_written s b ok, take_at (tail_of s) (drop (tail_size (length s)) b) (tail_size (length s)) (tail_length s))
      (whole_and_tail s)

  -- a refused call leaves the buffer as it was
  kept_as_it_was : ((written s b).number ≡ accepted → ⊥) → buffer_after s b ≡ b
  unfolding written
  kept_as_it_was h = sym (unwritten s b (tail_answer (length s) (length b)) refl h)

  -- by the three answers
  long : longest < length s → written s b ≡ refused_by too_long
  unfolding written
  long l = refused_long (length s) (length b) l

  small : length s ≤ longest → length b < tail_size (length s) → written s b ≡ refused_by wrong_size
  unfolding written
  small w h = refused_size (length s) (length b) w h

  fits : length s ≤ longest → tail_size (length s) ≤ length b → written s b ≡ wrote (tail_size (length s))
  unfolding written
  fits w r = accepts (length s) (length b) w r

  -- two numbers are not two answers
  not_two : {P : Type 0} {x y : Written} → written s b ≡ x → written s b ≡ y → (x.number ≡ y.number → ⊥) → P
  not_two e f h = absurd (h (ap (λ r. r.number) (sym e ∙ f)))

  later : drop (tail_size (length s)) (buffer_after s b) ≡ drop (tail_size (length s)) b
  later =
      cases (length s) (length b)
      (λ l. ap (drop (tail_size (length s))) (kept_as_it_was (λ z. eqb-false 10 0 refl (ap (λ r. r.number) (sym (long l)) ∙ z))))
      (λ w h. ap (drop (tail_size (length s))) (kept_as_it_was (λ z. eqb-false 11 0 refl (ap (λ r. r.number) (sym (small w h)) ∙ z))))
      (λ w r.
      ap (drop (tail_size (length s))) (tail_written s b (ap (λ r. r.number) (fits w r)))
      ∙ drop_at (tail_of s) (drop (tail_size (length s)) b) (tail_size (length s)) (tail_length s))

  is_long : written s b ≡ refused_by too_long → longest < length s
  is_long e =
      cases (length s) (length b) (λ l. l) (λ w h. not_two e (small w h) (eqb-false 10 11 refl)) (λ w r. not_two e (fits w r) (eqb-false 10 0 refl))

  is_small : written s b ≡ refused_by wrong_size → (length s ≤ longest) × (length b < tail_size (length s))
  is_small e =
      cases (length s) (length b) (λ l. not_two e (long l) (eqb-false 11 10 refl)) (λ w h. (w, h)) (λ w r. not_two e (fits w r) (eqb-false 11 0 refl))

  is_fit : written s b ≡ wrote (tail_size (length s)) → (length s ≤ longest) × (tail_size (length s) ≤ length b)
  is_fit e =
      cases (length s) (length b) (λ l. not_two e (long l) (eqb-false 0 10 refl)) (λ w h. not_two e (small w h) (eqb-false 0 11 refl)) (λ w r. (w, r))

pub proved : Promises
unfolding padding padded block_count written
proved =
    record {
      zeros_make_56 = makes_56;
      zeros_are_fewest = fewest;
      zeros_in_bits = in_bits_lem;
      fewest_bits = fewest_in_bits;
      spelled = λ m. refl;
      behind = λ s. refl;
      block_count_lem = λ m. refl;
      blocks = padded_length;
      size = tail_length;
      one_block = one_block;
      two_blocks = two_blocks;
      writer = writes;
      later_kept = later;
      ten = λ s b. (is_long s b, long s b);
      eleven = λ s b. (is_small s b, λ h. small s b h.0 h.1);
      zero = λ s b. (is_fit s b, λ h. fits s b h.0 h.1);
      refused_leaves = kept_as_it_was;
      pad_answers = λ s b. refl;
      pads = pads;
      pad_refused = λ m b h. sym (left_alone m b (tail_answer m (length b)) refl h);
    }
