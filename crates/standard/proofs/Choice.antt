-- The two ways to choose, bit by bit, of numbers of any width. Assumes nothing.
use mathlib.Core.Path.{◌≡◌, refl, sym, ap, ap₂, ◌∙◌}
use Prim.Native.Nat.{ℕ, zero, suc, ◌+◌, ◌*◌, ◌-◌, ◌/◌, ◌%◌, ◌^◌, ◌<◌}
use native.Mathlib.Nat.{div-add-mod', mod-lt, zero-lt-suc, pow-suc}
use native.Mathlib.Omega.{arith}
use lib.Arith.{lt-one}
use lib.Bits.{bit_and, bit_or, bit_xor, and_block, or_block, xor_block, and_lt, xor_lt}

-- where x has a bit, that of y, else that of z: by exclusive or, and by a mask c, which is x with every bit the other way
abbrev by_xor : ℕ → ℕ → ℕ → ℕ
by_xor x y z = bit_xor (bit_and (bit_xor y z) x) z

abbrev by_mask : ℕ → ℕ → ℕ → ℕ → ℕ
by_mask c x y z = bit_or (bit_and x y) (bit_and c z)

-- the lowest bit apart
byXor_bit : (x y z a b c : ℕ) → a < 2 → b < 2 → c < 2 → by_xor (x * 2 + a) (y * 2 + b) (z * 2 + c) ≡ by_xor x y z * 2 + by_xor a b c
byXor_bit x y z a b c ha hb hc =
    ap (λ (u : ℕ). bit_xor (bit_and u (x * 2 + a)) (z * 2 + c)) (xor_block 1 y z b c hb hc)
    ∙ ap (λ (u : ℕ). bit_xor u (z * 2 + c)) (and_block 1 (bit_xor y z) x (bit_xor b c) a (xor_lt 1 b c hb hc) ha)
    ∙ xor_block 1 (bit_and (bit_xor y z) x) z (bit_and (bit_xor b c) a) c (and_lt 1 (bit_xor b c) a (xor_lt 1 b c hb hc) ha) hc

byMask_bit : (n x y z m a b c : ℕ) → m < 2 → a < 2 → b < 2 → c < 2
    → by_mask (n * 2 + m) (x * 2 + a) (y * 2 + b) (z * 2 + c) ≡ by_mask n x y z * 2 + by_mask m a b c
byMask_bit n x y z m a b c hm ha hb hc =
    ap₂ (λ (u v : ℕ). bit_or u v) (and_block 1 x y a b ha hb) (and_block 1 n z m c hm hc)
    ∙ or_block 1 (bit_and x y) (bit_and n z) (bit_and a b) (bit_and m c) (and_lt 1 a b ha hb) (and_lt 1 m c hm hc)

abbrev Same : ℕ → ℕ → ℕ → Type 0
Same a b c = by_xor a b c ≡ by_mask (1 - a) a b c

-- what holds of both bits
both : (P : ℕ → Type 0) → P 0 → P 1 → (a : ℕ) → a < 2 → P a
both P p q zero h = p
both P p q (suc zero) h = q
both P p q (suc (suc a)) h = absurd (omega arith)

on_bits : (a b c : ℕ) → a < 2 → b < 2 → c < 2 → Same a b c
on_bits a b c ha hb hc =
    both (λ (x : ℕ). Same x b c)
    (both (λ (y : ℕ). Same 0 y c) (both (λ (z : ℕ). Same 0 0 z) refl refl c hc) (both (λ (z : ℕ). Same 0 1 z) refl refl c hc) b hb)
    (both (λ (y : ℕ). Same 1 y c) (both (λ (z : ℕ). Same 1 0 z) refl refl c hc) (both (λ (z : ℕ). Same 1 1 z) refl refl c hc) b hb)
    a ha

half_lt : (k x : ℕ) → x < 2 ^ suc k → x / 2 < 2 ^ k
half_lt k x h = omega (arith, pow-suc 2 k)

pub chosen : (k x y z : ℕ) → x < 2 ^ k → y < 2 ^ k → z < 2 ^ k → by_xor x y z ≡ by_mask (2 ^ k - 1 - x) x y z
chosen zero x y z hx hy hz = rw (lt-one hx, lt-one hy, lt-one hz)
chosen (suc k) x y z hx hy hz =
    let mask : (2 ^ k - 1 - x / 2) * 2 + (1 - x % 2) ≡ 2 ^ suc k - 1 - x = omega (arith, pow-suc 2 k) in
    parts by_xor x y z ∙ byXor_bit (x / 2) (y / 2) (z / 2) (x % 2) (y % 2) (z % 2) (bit x) (bit y) (bit z)
    ∙ ap₂ (λ (u v : ℕ). u * 2 + v) (chosen k (x / 2) (y / 2) (z / 2) (half_lt k x hx) (half_lt k y hy) (half_lt k z hz)) (on_bits (x % 2) (y % 2) (z % 2) (bit x) (bit y) (bit z))
    ∙ sym (byMask_bit (2 ^ k - 1 - x / 2) (x / 2) (y / 2) (z / 2) (1 - x % 2) (x % 2) (y % 2) (z % 2) (omega arith) (bit x) (bit y) (bit z))
    ∙ ap (λ (c : ℕ). by_mask c (x / 2 * 2 + x % 2) (y / 2 * 2 + y % 2) (z / 2 * 2 + z % 2)) mask
    ∙ sym (parts (by_mask (2 ^ suc k - 1 - x)) x y z)
  where
    bit : (x : ℕ) → x % 2 < 2
    bit x = mod-lt x (zero-lt-suc 1)

    parts : (f : ℕ → ℕ → ℕ → ℕ) (x y z : ℕ) → f x y z ≡ f (x / 2 * 2 + x % 2) (y / 2 * 2 + y % 2) (z / 2 * 2 + z % 2)
    parts f x y z = sym (rw (div-add-mod' x 2, div-add-mod' y 2, div-add-mod' z 2))
