-- Bytes taken apart as a padded message is put together: some bytes, one byte, z more and the last eight. Assumes nothing.
use Prim.Native.Nat.{ℕ, suc, ◌+◌, ◌-◌, ◌^◌, ◌<◌, ◌≤◌}
use mathlib.Core.Path.{◌≡◌, refl, sym, ap, ◌∙◌}
use mathlib.Core.Bool.{Bool, true, false, ◌&&◌}
use mathlib.Core.List.{List, ◌∷◌, ◌++◌}
use native.Mathlib.Nat.{mod-eq_of_lt}
use native.Mathlib.Numerals.{add-one}
use native.Mathlib.Omega.{arith}
use borrow.Author.Tests.{eq-eqb, ne_eqb, eqb-true}
use mir.Val.{Fits}
use mir.Syntax.{w8}
use lib.Dec.{eqb}
use lib.ListN.{length, take, drop, get_or, replicate, length-take, length-drop, length-replicate}
use lib.Seq.{drop-cons, drop-drop, take-add, get_or-take, get_or-drop, take_all, length-take-le}
use Rattle.buffers.specs.Same.{same}
use Rattle.truth.proofs.Tests.{agree}
use Rattle.buffers.proofs.Comparing.{same_equal, equal_same, same_join}
use Rattle.padded.specs.Removing.{stated_bits, right_fill}
use Rattle.word.specs.BigEndian.{big_endian, number_of, AreBytes}
use Rattle.word.proofs.BigEndian.{number_bytes, bytes_number}

-- the parts of the first k + 1 + z + 8 bytes
pub parted : (b : List ℕ) (k z : ℕ) → k < length b
    → take (k + (1 + (z + 8))) b ≡ take k b ++ (get_or b k 0 ∷ (take z (drop (k + 1) b) ++ take 8 (drop (k + 1 + z) b)))
parted b k z h =
    let one : 1 + (z + 8) ≡ suc (z + 8) = omega arith in
    rw (one, take-add k (suc (z + 8)) b, drop-cons b k 0 h, take-add z 8 (drop (suc k) b), drop-drop z (suc k) b, add-one k)

regroup : (p q r t : Bool) → (p && (q && (r && t))) ≡ (p && (q && r) && t)
regroup true true r t = refl
regroup true false r t = refl
regroup false q r t = refl

-- eight bytes against the bytes of a number: by their number
pub same_number : (b : List ℕ) (x : ℕ) → AreBytes b → length b ≡ 8 → x < 2 ^ 64 → same b (big_endian 8 x) ≡ eqb (number_of b) x
same_number b x all long small =
    agree _ _
    (λ h. eq-eqb (number_of b) x (ap number_of (same_equal b (big_endian 8 x) h) ∙ number_bytes 8 x ∙ mod-eq_of_lt small))
    (λ h. equal_same b (big_endian 8 x)
    (sym (bytes_number b all) ∙ rw (long, eqb-true (number_of b) x h)))

-- a part of bytes is bytes
pub part_bytes : (b : List ℕ) (n from : ℕ) → AreBytes b → AreBytes (take n (drop from b))
unfolding AreBytes
part_bytes b n from all i h =
    let short = simp (length-take, length-drop) at h in
    rw (get_or-take n (drop from b) i 0 (omega arith), get_or-drop from b i 0) (all (from + i) (omega arith))

-- the fill, test by test
pub no_80 : (b : List ℕ) (m : ℕ) → (get_or b m 0 ≡ 0x80 → ⊥) → false ≡ right_fill m b
unfolding right_fill
no_80 b m h = simp (ne_eqb (get_or b m 0) 0x80 h)

pub then_zeros : (b : List ℕ) (m : ℕ) → get_or b m 0 ≡ 0x80 → m + 9 ≤ length b
    → same (take (length b - 8 - (m + 1)) (drop (m + 1) b)) (replicate (length (take (length b - 8 - (m + 1)) (drop (m + 1) b))) 0) ≡ right_fill m b
unfolding right_fill
then_zeros b m h l =
    rw (eq-eqb (get_or b m 0) 0x80 h, length-take-le (length b - 8 - (m + 1)) (drop (m + 1) b) (omega (arith, length-drop (m + 1) b)))

-- the last eight bytes
pub stated_is : (b : List ℕ) → number_of (take (length b - (length b - 8)) (drop (length b - 8) b)) ≡ stated_bits b
unfolding stated_bits
stated_is b = ap number_of (take_all (length b - (length b - 8)) (drop (length b - 8) b) (omega (arith, length-drop (length b - 8) b)))

-- bytes against a list that is put together like a padded message: its front, the fill and the number at its end
module _ (front b : List ℕ) (z x : ℕ) (all : AreBytes b) (long : length b ≡ length front + (1 + (z + 8))) (small : x < 2 ^ 64) where
  abbrev pub filled : List ℕ
  filled = front ++ (0x80 ∷ (replicate z 0 ++ big_endian 8 x))

  parts : b ≡ take (length front) b ++ (get_or b (length front) 0 ∷ (take z (drop (length front + 1) b) ++ take 8 (drop (length front + 1 + z) b)))
  parts = sym (take_all (length front + (1 + (z + 8))) b (omega arith)) ∙ parted b (length front) z (omega arith)

  fill_parts : right_fill (length front) b ≡ (eqb (get_or b (length front) 0) 0x80 && same (take z (drop (length front + 1) b)) (replicate z 0))
  unfolding right_fill
  fill_parts = let between : length b - 8 - (length front + 1) ≡ z = omega arith in rw between

  stated_part : stated_bits b ≡ number_of (take 8 (drop (length front + 1 + z) b))
  unfolding stated_bits
  stated_part =
      let at : length b - 8 ≡ length front + 1 + z = omega arith in
      rw at (ap number_of (sym (take_all 8 (drop (length front + 1 + z) b) (omega (arith, length-drop (length front + 1 + z) b)))))

  pub by_parts : same b filled ≡ (same (take (length front) b) front && right_fill (length front) b && eqb (stated_bits b) x)
  unfolding same
  by_parts =
      let zeroed : length (take z (drop (length front + 1) b)) ≡ length (replicate {A = ℕ} z 0)
      = length-take-le z (drop (length front + 1) b) (omega (arith, length-drop (length front + 1) b)) ∙ sym (length-replicate {A = ℕ} z 0) in
      let last : length (take 8 (drop (length front + 1 + z) b)) ≡ 8
      = length-take-le 8 (drop (length front + 1 + z) b) (omega (arith, length-drop (length front + 1 + z) b)) in
      ap (λ l. same l filled) parts
      ∙ same_join (take (length front) b) front _ _ (length-take-le (length front) b (omega arith))
      ∙ rw (
        same_join (take z (drop (length front + 1) b)) (replicate z 0) (take 8 (drop (length front + 1 + z) b)) (big_endian 8 x) zeroed,
        fill_parts,
        stated_part,
        same_number (take 8 (drop (length front + 1 + z) b)) x (part_bytes b 8 (length front + 1 + z) all) last small,
      )
      (regroup (same (take (length front) b) front) (eqb (get_or b (length front) 0) 0x80) (same (take z (drop (length front + 1) b)) (replicate z 0))
      (eqb (number_of (take 8 (drop (length front + 1 + z) b))) x))

-- what a lent slice is known to hold
pub are_bytes : (b : List ℕ) → ((i : ℕ) → Fits w8 (get_or b i 0)) → AreBytes b
unfolding AreBytes
are_bytes b known i h = (known i).fits
