-- `same` says whether two lists are equal, and so does the difference that is gathered byte by byte. Assumes nothing.
use mathlib.Core.Path.{◌≡◌, refl, sym, ap, ◌∙◌}
use mathlib.Core.List.{List, [], ◌∷◌, ◌++◌}
use mathlib.Core.Bool.{true, false, ◌&&◌, and_assoc, and-true}
use Prim.Native.Nat.{ℕ}
use native.Mathlib.Omega.{arith}
use borrow.Author.Tests.{eqb-true, eq-eqb}
use lib.Bits.{bit_or, bit_xor, or_add_and, xor_add_and, and_le_l, and_le_r, xor_self, xor_zero_r, or_self}
use lib.Dec.{eqb}
use lib.ListN.{length}
use Rattle.std.specs.List.{fold, zip}
use Rattle.truth.proofs.Tests.{agree, first, second, both, never, not_both}
use Rattle.buffers.specs.Same.{same, all_zero}

-- what is the same is equal
pub same_equal : (a b : List ℕ) → same a b ≡ true → a ≡ b
unfolding same
same_equal [] [] h = refl
same_equal [] (y ∷ ys) h = cc
same_equal (x ∷ xs) [] h = cc
same_equal (x ∷ xs) (y ∷ ys) h =
    let head : x ≡ y = eqb-true x y (first (eqb x y) (same xs ys) h) in
    let rest : xs ≡ ys = same_equal xs ys (second (eqb x y) (same xs ys) h) in
    cc

-- what is equal is the same
pub same_self : (a : List ℕ) → same a a ≡ true
unfolding same
same_self [] = refl
same_self (x ∷ xs) = both _ _ (eq-eqb x x refl) (same_self xs)

pub equal_same : (a b : List ℕ) → a ≡ b → same a b ≡ true
equal_same a b h = rw h (same_self b)

-- what differs is not the same, and the other way round
pub differ_same : (a b : List ℕ) → (a ≡ b → ⊥) → same a b ≡ false
differ_same a b f = never _ (λ h. f (same_equal a b h))

pub same_differ : (a b : List ℕ) → same a b ≡ false → a ≡ b → ⊥
same_differ a b h e = not_both _ h (equal_same a b e)

pub other_length : (a b : List ℕ) → (length a ≡ length b → ⊥) → same a b ≡ false
other_length a b f = differ_same a b (λ e. f (ap length e))

-- joined lists, the first parts as long: part by part
pub same_join : (a b c d : List ℕ) → length a ≡ length b → same (a ++ c) (b ++ d) ≡ (same a b && same c d)
unfolding same
same_join [] [] c d h = refl
same_join [] (y ∷ ys) c d h = absurd (omega arith)
same_join (x ∷ xs) [] c d h = absurd (omega arith)
same_join (x ∷ xs) (y ∷ ys) c d h =
    rw (same_join xs ys c d (omega arith)) (sym (and_assoc (eqb x y) (same xs ys) (same c d)))

-- nothing was gathered exactly when nothing was before and these two bytes are equal
gathered : (d x y : ℕ) → eqb (bit_or d (bit_xor x y)) 0 ≡ (eqb d 0 && eqb x y)
gathered d x y =
    agree _ _
    (λ h.
    let none : bit_or d (bit_xor x y) ≡ 0 = eqb-true _ _ h in
    both _ _
    (eq-eqb d 0 (omega (arith, or_add_and d (bit_xor x y), and_le_l d (bit_xor x y), and_le_r d (bit_xor x y))))
    (eq-eqb x y
    (omega (arith, or_add_and d (bit_xor x y), and_le_l d (bit_xor x y), and_le_r d (bit_xor x y), xor_add_and x y, and_le_l x y, and_le_r x y))))
    (λ h.
    let none : d ≡ 0 = eqb-true d 0 (first (eqb d 0) (eqb x y) h) in
    let equal : x ≡ y = eqb-true x y (second (eqb d 0) (eqb x y) h) in
    eq-eqb (bit_or d (bit_xor x y)) 0 (rw (none, equal, xor_self y) (or_self 0)))

-- the differences of all the bytes of two lists that are as long, gathered one after the other
pub gathered_all : (a b : List ℕ) (d : ℕ) → length a ≡ length b
    → eqb (fold (λ (found : ℕ) (p : ℕ × ℕ). bit_or found (bit_xor p.0 p.1)) d (zip a b)) 0 ≡ (eqb d 0 && same a b)
unfolding same
gathered_all [] [] d h = sym (and-true _)
gathered_all [] (y ∷ ys) d h = absurd (omega arith)
gathered_all (x ∷ xs) [] d h = absurd (omega arith)
gathered_all (x ∷ xs) (y ∷ ys) d h =
    gathered_all xs ys (bit_or d (bit_xor x y)) (omega arith) ∙ rw (gathered d x y) (and_assoc (eqb d 0) (eqb x y) (same xs ys))

-- the bits of all the bytes, gathered so: they are held against as many zeros
pub bits_all : (s : List ℕ) (d : ℕ) → eqb (fold bit_or d s) 0 ≡ (eqb d 0 && all_zero s)
unfolding same
bits_all [] d = sym (and-true _)
bits_all (x ∷ xs) d =
    bits_all xs (bit_or d x)
    ∙ rw (ap (bit_or d) (sym (xor_zero_r x)), gathered d x 0) (and_assoc (eqb d 0) (eqb x 0) (all_zero xs))
