-- A number of m + n bits turned by n places: its n high bits go to the low end. Every law of rotation comes from here, whatever the widths.
-- Assumes nothing.
use Rattle.std.proofs.Common.{◌≡◌, ℕ, suc, ◌+◌, ◌*◌, ◌/◌, ◌%◌, ◌^◌, ◌<◌, sym, ap, ◌∙◌, subst, ap₂, add-zero, add_assoc, mod-lt, mod-eq_of_lt, mul_assoc, add-mul, add_comm, mul-lt-mul_of_pos_right, pow-suc, div-add-mod', zero-add, zero-mul, mul-one, div-one, add-one, pow_pos, pow-add, shr-shr, shr_lt}
use native.Mathlib.Nat.{mod-one, div-eq_of_lt, add_right_cancel}
use lib.Arith.{digits_mod, digits_lt}
use lib.Pow.{split, high, mod-pow-add}
use lib.Bits.{bit_or, bit_xor, or_shifted, xor_block, xor_shr, xor_mod}

abbrev pub turn : ℕ → ℕ → ℕ → ℕ
turn m n x = x * 2 ^ n % 2 ^ (m + n) + x / 2 ^ m

-- the high part q and the m low bits r change places
pub turn_parts : (m n q : ℕ) {r : ℕ} → r < 2 ^ m → turn m n (q * 2 ^ m + r) ≡ r * 2 ^ n + q
turn_parts m n q {r} h = ap₂ (λ (a b : ℕ). a + b) (turn_high m n q h) (high q m h)
  where
    turn_high : (m n q : ℕ) {r : ℕ} → r < 2 ^ m → (q * 2 ^ m + r) * 2 ^ n % 2 ^ (m + n) ≡ r * 2 ^ n
    turn_high m n q {r} h =
        ap₂ (λ (a b : ℕ). a % b) (add-mul (q * 2 ^ m) r (2 ^ n) ∙ ap (λ (a : ℕ). a + r * 2 ^ n) (mul_assoc q (2 ^ m) (2 ^ n))) (pow-add 2 m n)
        ∙ digits_mod q (mul-lt-mul_of_pos_right h (pow_pos n))

-- so the m low bits go up by n places, and the high part comes in below them
pub turn_split : (m n x : ℕ) → turn m n x ≡ x % 2 ^ m * 2 ^ n + x / 2 ^ m
turn_split m n x = subst (λ (y : ℕ). turn m n y ≡ x % 2 ^ m * 2 ^ n + x / 2 ^ m) (split x m) (turn_parts m n (x / 2 ^ m) (mod-lt x (pow_pos m)))

-- the high part has n bits
high_lt : (m n x : ℕ) → x < 2 ^ (m + n) → x / 2 ^ m < 2 ^ n
high_lt m n x h = shr_lt n m (subst (λ (e : ℕ). x < 2 ^ e) (add_comm m n) h)

pub turn_lt : (m n x : ℕ) → x < 2 ^ (m + n) → turn m n x < 2 ^ (m + n)
turn_lt m n x h =
    rw (turn_split m n x, pow-add 2 m n) (digits_lt (mod-lt x (pow_pos m)) (high_lt m n x h))

-- the two parts lie apart, so `or` joins them as the sum does
pub turn_or : (m n x : ℕ) → x < 2 ^ (m + n) → bit_or (x * 2 ^ n % 2 ^ (m + n)) (x / 2 ^ m) ≡ turn m n x
turn_or m n x h =
    ap (λ (a : ℕ). bit_or a (x / 2 ^ m)) (low_up m n x) ∙ or_shifted (x % 2 ^ m) n (x / 2 ^ m) (high_lt m n x h) ∙ sym (turn_split m n x)
  where
    low_up : (m n x : ℕ) → x * 2 ^ n % 2 ^ (m + n) ≡ x % 2 ^ m * 2 ^ n
    low_up m n x = add_right_cancel (x / 2 ^ m) (turn_split m n x)

-- two numbers xored turn as each of them does
pub turn_xor : (m n x y : ℕ) → x < 2 ^ (m + n) → y < 2 ^ (m + n) → turn m n (bit_xor x y) ≡ bit_xor (turn m n x) (turn m n y)
turn_xor m n x y hx hy =
    turn_split m n (bit_xor x y) ∙ ap₂ (λ (a b : ℕ). a * 2 ^ n + b) (xor_mod x y m) (xor_shr x y m)
    ∙ sym (xor_block n (x % 2 ^ m) (y % 2 ^ m) (x / 2 ^ m) (y / 2 ^ m) (high_lt m n x hx) (high_lt m n y hy))
    ∙ ap₂ bit_xor (sym (turn_split m n x)) (sym (turn_split m n y))

pub turn_none : (m x : ℕ) → x < 2 ^ m → turn m 0 x ≡ x
turn_none m x h =
    turn_split m 0 x ∙ ap₂ (λ (a b : ℕ). a * 1 + b) (mod-eq_of_lt h) (div-eq_of_lt h) ∙ add-zero (x * 1) ∙ mul-one x

pub turn_all : (n x : ℕ) → turn 0 n x ≡ x
turn_all n x = turn_split 0 n x ∙ ap₂ (λ (a b : ℕ). a * 2 ^ n + b) (mod-one x) (div-one x) ∙ ap (λ (a : ℕ). a + x) (zero-mul (2 ^ n)) ∙ zero-add x

-- one place further: the bit t at the top of the m + 1 low bits joins the high part q
module _ (m n x : ℕ) (h : x < 2 ^ (suc m + n)) where
  abbrev q : ℕ
  q = x / 2 ^ m / 2

  abbrev t : ℕ
  t = x / 2 ^ m % 2

  abbrev s : ℕ
  s = x % 2 ^ m

  halved : x / 2 ^ suc m ≡ q
  halved = ap (λ (e : ℕ). x / 2 ^ e) (sym (add-one m)) ∙ sym (shr-shr x m 1)

  low_bits : x % 2 ^ suc m ≡ t * 2 ^ m + s
  low_bits = ap (λ (e : ℕ). x % 2 ^ e) (sym (add-one m) ∙ add_comm m 1) ∙ mod-pow-add x 1 m

  s_and_q : s * 2 ^ n + q < 2 ^ (m + n)
  s_and_q = rw (pow-add 2 m n) (digits_lt (mod-lt x (pow_pos m)) (subst (λ (a : ℕ). a < 2 ^ n) halved (high_lt (suc m) n x h)))

  before : turn (suc m) n x ≡ t * 2 ^ (m + n) + (s * 2 ^ n + q)
  before =
      turn_split (suc m) n x ∙ ap₂ (λ (a b : ℕ). a * 2 ^ n + b) low_bits halved
      ∙ ap (λ (a : ℕ). a + q) (add-mul (t * 2 ^ m) s (2 ^ n)) ∙ add_assoc (t * 2 ^ m * 2 ^ n) (s * 2 ^ n) q
      ∙ ap (λ (a : ℕ). a + (s * 2 ^ n + q)) (mul_assoc t (2 ^ m) (2 ^ n) ∙ ap (λ (a : ℕ). t * a) (sym (pow-add 2 m n)))

  after : (s * 2 ^ n + q) * 2 + t ≡ turn m (suc n) x
  after =
      ap (λ (a : ℕ). a + t) (add-mul (s * 2 ^ n) q 2) ∙ add_assoc (s * 2 ^ n * 2) (q * 2) t
      ∙ ap₂ (λ (a b : ℕ). a + b) (mul_assoc s (2 ^ n) 2 ∙ ap (λ (a : ℕ). s * a) (sym (pow-suc 2 n))) (div-add-mod' (x / 2 ^ m) 2)
      ∙ sym (turn_split m (suc n) x)

  pub turn_further : turn (m + n) 1 (turn (suc m) n x) ≡ turn m (suc n) x
  turn_further = ap (turn (m + n) 1) before ∙ turn_parts (m + n) 1 t s_and_q ∙ after
