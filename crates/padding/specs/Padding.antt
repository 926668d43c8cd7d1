-- "Padding of m bytes": document 01, "SM3, condensed"; document 003, 5.2, for whole bytes.
use Rattle.std.specs.Prelude.{ℕ, ◌+◌, ◌*◌, ◌-◌, ◌/◌, ◌%◌, List, ◌∷◌, ◌++◌, length, replicate}
use Rattle.word.specs.BigEndian.{big_endian}

-- "the fewest zero bytes that make the length 56 modulo 64": the length after the byte 80 is m + 1. Document 003 counts bits: its 1 and
-- the first seven of its k zeros are the byte 80, so k = 8 * zeros m + 7 (the promise `zeros_in_bits`)
unfoldable pub zeros : ℕ → ℕ
zeros m = (119 - m % 64) % 64

-- "one byte 80 hex, then the fewest zero bytes .., then 8·m as eight bytes"
unfoldable pub padding : ℕ → List ℕ
padding m = 0x80 ∷ (replicate (zeros m) 0 ++ big_endian 8 (8 * m))

-- the padded message
unfoldable pub padded : List ℕ → List ℕ
padded message = message ++ padding (length message)

-- "A padded message has floor((m+8)/64) + 1 blocks"
unfoldable pub block_count : ℕ → ℕ
block_count m = (m + 8) / 64 + 1
