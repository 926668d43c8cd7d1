-- Numbers as bytes, most significant first.
use Rattle.std.specs.Prelude.{ℕ, zero, suc, ◌+◌, ◌*◌, ◌/◌, ◌%◌, ◌<◌, List, [], ◌∷◌, ◌++◌, length, slice_index}

-- the n bytes of x, most significant first
unfoldable pub big_endian : ℕ → ℕ → List ℕ
big_endian zero x = []
big_endian (suc n) x = big_endian n (x / 256) ++ (x % 256 ∷ [])

-- the number that begins with `high` and goes on with these bytes
unfoldable pub number_from : ℕ → List ℕ → ℕ
number_from high [] = high
number_from high (b ∷ bs) = number_from (high * 256 + b) bs

-- the number that these bytes are, most significant first
unfoldable pub number_of : List ℕ → ℕ
unfolding number_from
number_of bytes = number_from 0 bytes

-- each of them is a byte
unfoldable pub AreBytes : List ℕ → Type 0
AreBytes bytes = (i : ℕ) → i < length bytes → slice_index bytes i < 256
