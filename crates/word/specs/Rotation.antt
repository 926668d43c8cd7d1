-- Words of 32 bits, as numbers below 2^32: the standard's + and <<<.
use Rattle.std.specs.Prelude.{ℕ, ◌+◌, ◌-◌, ◌*◌, ◌/◌, ◌%◌, ◌^◌}

infixl 65 ◌⊞◌
infixl 70 ◌<<<◌
-- "+ is modulo 2^32"
unfoldable pub ◌⊞◌ : ℕ → ℕ → ℕ
x ⊞ y = (x + y) % 2 ^ 32

-- "<<< rotates left": k places to the left, and what leaves the word at the left comes in at the right. 32 places are none.
unfoldable pub ◌<<<◌ : ℕ → ℕ → ℕ
x <<< k = x * 2 ^ (k % 32) % 2 ^ 32 + x / 2 ^ (32 - k % 32)
