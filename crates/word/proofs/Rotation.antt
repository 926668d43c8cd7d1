-- The laws of <<< on words. Assumes nothing.
use Rattle.std.proofs.Common.{◌≡◌, ℕ, zero, suc, ◌+◌, ◌-◌, ◌*◌, ◌/◌, ◌%◌, ◌^◌, ◌<◌, ◌≤◌, sym, refl, ap, ◌∙◌, subst, ap₂, ⊎_elim, add-zero, add-suc, mod-eq_of_lt, eq-zero-or-pos, eq-or-lt_of_le, mul-one, div-one, arith}
use native.Mathlib.Nat.{mod-mod}
use lib.Bits.{bit_or, bit_xor, or_self, xor_assoc}
use Rattle.word.specs.Rotation.{◌<<<◌}
use Rattle.word.proofs.Turning.{turn, turn_or, turn_lt, turn_xor, turn_none, turn_all, turn_further}

-- x <<< k is a turn by k % 32 places
rotated : (k x m n : ℕ) → k % 32 ≡ n → m + n ≡ 32 → x <<< k ≡ turn m n x
unfolding ◌<<<◌
rotated k x m n e w =
    let left : 32 - n ≡ m = omega arith in
    rw e (ap₂ (λ (a b : ℕ). x * 2 ^ n % 2 ^ a + x / 2 ^ b) (sym w) left)

-- the width is 32, in two parts
two_parts : (k : ℕ) → (32 - k % 32) + k % 32 ≡ 32
two_parts k = omega arith

pub rotated_lt : (x k : ℕ) → x < 2 ^ 32 → x <<< k < 2 ^ 32
rotated_lt x k h =
    rw (rotated k x (32 - k % 32) (k % 32) refl (two_parts k))
    (subst (λ (e : ℕ). x < 2 ^ e → turn (32 - k % 32) (k % 32) x < 2 ^ e) (two_parts k) (turn_lt (32 - k % 32) (k % 32) x) h)

pub rotated_none : (x : ℕ) → x < 2 ^ 32 → x <<< 0 ≡ x
rotated_none x h = rotated 0 x 32 0 refl refl ∙ turn_none 32 x h

pub rotated_mod : (x k : ℕ) → x <<< (k % 32) ≡ x <<< k
rotated_mod x k =
    rotated (k % 32) x (32 - k % 32) (k % 32) (mod-mod k 32) (two_parts k)
    ∙ sym (rotated k x (32 - k % 32) (k % 32) refl (two_parts k))

-- a word turned by k % 32 + 1 places, the first of them last
further : (x k n m : ℕ) → x < 2 ^ 32 → k % 32 ≡ n → m + n ≡ 31 → (x <<< k) <<< 1 ≡ turn m (suc n) x
further x k n m h e w =
    rotated 1 (x <<< k) (m + n) 1 refl (ap (λ (a : ℕ). a + 1) w) ∙ ap (turn (m + n) 1) (rotated k x (suc m) n e (wide m n w))
    ∙ turn_further m n x (subst (λ (a : ℕ). x < 2 ^ a) (sym (wide m n w)) h)
  where
    wide : (m n : ℕ) → m + n ≡ 31 → suc m + n ≡ 32
    wide m n w = omega arith

rotated_suc : (x k : ℕ) → x < 2 ^ 32 → x <<< suc k ≡ (x <<< k) <<< 1
rotated_suc x k h =
    ⊎_elim
    (λ last. rotated (suc k) x 32 0 (omega arith) refl ∙ turn_none 32 x h ∙ sym (turn_all 32 x) ∙ sym (further x k 31 0 h last refl))
    (λ more. rotated (suc k) x (31 - k % 32) (suc (k % 32)) (omega arith) (omega arith) ∙ sym (further x k (k % 32) (31 - k % 32) h refl (omega arith)))
    (eq-or-lt_of_le (at_most k))
  where
    at_most : (k : ℕ) → k % 32 ≤ 31
    at_most k = omega arith

pub rotated_add : (x a b : ℕ) → x < 2 ^ 32 → x <<< (a + b) ≡ (x <<< a) <<< b
rotated_add x a zero h = ap (λ (k : ℕ). x <<< k) (add-zero a) ∙ sym (rotated_none (x <<< a) (rotated_lt x a h))
rotated_add x a (suc b) h =
    ap (λ (k : ℕ). x <<< k) (add-suc a b) ∙ rotated_suc x (a + b) h ∙ ap (λ (y : ℕ). y <<< 1) (rotated_add x a b h)
    ∙ sym (rotated_suc (x <<< a) b (rotated_lt x a h))

-- two words xored rotate as each of them does
pub rotated_xor : (x y k : ℕ) → x < 2 ^ 32 → y < 2 ^ 32 → bit_xor x y <<< k ≡ bit_xor (x <<< k) (y <<< k)
rotated_xor x y k hx hy =
    by_turn (bit_xor x y) ∙ turn_xor (32 - k % 32) (k % 32) x y (wide x hx) (wide y hy) ∙ sym (ap₂ bit_xor (by_turn x) (by_turn y))
  where
    by_turn : (z : ℕ) → z <<< k ≡ turn (32 - k % 32) (k % 32) z
    by_turn z = rotated k z (32 - k % 32) (k % 32) refl (two_parts k)

    wide : (z : ℕ) → z < 2 ^ 32 → z < 2 ^ ((32 - k % 32) + k % 32)
    wide z h = subst (λ (e : ℕ). z < 2 ^ e) (sym (two_parts k)) h

-- a word xored with two rotations of it, by b and by a + b places: y is the inner rotation, z the one around it
pub rotations_nested : (x a b y z : ℕ) → x < 2 ^ 32 → y ≡ x <<< a → z ≡ bit_xor x y <<< b
    → bit_xor x z ≡ bit_xor (bit_xor x (x <<< b)) (x <<< (a + b))
rotations_nested x a b y z h ey ez =
    ap (bit_xor x) (ez ∙ ap (λ (u : ℕ). bit_xor x u <<< b) ey ∙ rotated_xor x (x <<< a) b h (rotated_lt x a h) ∙ ap (bit_xor (x <<< b)) (sym (rotated_add x a b h)))
    ∙ sym (xor_assoc x (x <<< b) (x <<< (a + b)))

-- the two shifts that make a rotation in code. By no places both are the word itself.
pub shifts_rotate : (x k : ℕ) → x < 2 ^ 32 → bit_or (x * 2 ^ (k % 32) % 2 ^ 32) (x / 2 ^ ((32 - k % 32) % 32)) ≡ x <<< k
shifts_rotate x k h =
    ⊎_elim
    (λ none. rw none (ap (λ (a : ℕ). bit_or a (x / 1)) (ap (λ (a : ℕ). a % 2 ^ 32) (mul-one x) ∙ mod-eq_of_lt h) ∙ ap (bit_or x) (div-one x) ∙ or_self x ∙ sym (rotated k x 32 0 none refl ∙ turn_none 32 x h)))
    (λ some. let small : (32 - k % 32) % 32 ≡ 32 - k % 32 = omega arith in
    rw small (subst (λ (e : ℕ). x < 2 ^ e → bit_or (x * 2 ^ (k % 32) % 2 ^ e) (x / 2 ^ (32 - k % 32)) ≡ turn (32 - k % 32) (k % 32) x) (two_parts k) (turn_or (32 - k % 32) (k % 32) x) h
    ∙ sym (rotated k x (32 - k % 32) (k % 32) refl (two_parts k))))
    (eq-zero-or-pos (k % 32))
