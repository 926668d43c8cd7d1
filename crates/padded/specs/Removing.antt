-- "Removing": document 01, "Padded blocks".
use Rattle.std.specs.Prelude.{ℕ, ◌+◌, ◌*◌, ◌-◌, ◌/◌, ◌%◌, List, Bool, cond, ◌&&◌, ltb, eqb, length, get_or, take, drop, replicate}
use Rattle.refusal.specs.Table.{accepted, not_padded}
use Rattle.buffers.specs.Same.{same}
use Rattle.word.specs.BigEndian.{number_of}
use Rattle.padding.specs.Padding.{block_count}

-- what "the last eight bytes give"
unfoldable pub stated_bits : List ℕ → ℕ
stated_bits bytes = number_of (drop (length bytes - 8) bytes)

-- "8·m with the right block count for m"
unfoldable pub right_count : List ℕ → Bool
right_count bytes = eqb (stated_bits bytes % 8) 0 && eqb (64 * block_count (stated_bits bytes / 8)) (length bytes)

-- "byte m is 80 hex, and all bytes between it and the last eight are zero"
unfoldable pub right_fill : ℕ → List ℕ → Bool
right_fill m bytes =
    let between = length bytes - 8 - (m + 1) in
    eqb (get_or bytes m 0) 0x80 && same (take between (drop (m + 1) bytes)) (replicate between 0)

-- "the bytes are a padded message exactly when their length is a positive multiple of 64, .."
unfoldable pub is_padded : List ℕ → Bool
is_padded bytes = ltb 0 (length bytes) && eqb (length bytes % 64) 0 && right_count bytes && right_fill (stated_bits bytes / 8) bytes

unfoldable pub remove_number : List ℕ → ℕ
remove_number bytes = cond (is_padded bytes) accepted not_padded

-- "The answer is the first m bytes, as a part of what was lent": how many, "empty part" where the number is a refusal; and the bytes
unfoldable pub remove_length : List ℕ → ℕ
remove_length bytes = cond (is_padded bytes) (stated_bits bytes / 8) 0

unfoldable pub remove_part : List ℕ → List ℕ
remove_part bytes = take (remove_length bytes) bytes
