-- Hex digits: document 01, "The rank sheet".
use Rattle.std.specs.Prelude.{ℕ, zero, suc, ◌+◌, ◌-◌, ◌<◌, ◌≤◌, ◌≡◌, ◌⊎◌, List, [], ◌∷◌, ◌++◌, Bool, cond, ◌&&◌, leb, ltb}

-- "characters of 0-9 and a-f", and what each stands for
unfoldable pub IsDigit : (code value : ℕ) → Type 0
IsDigit code value = ((value < 10) × (code ≡ 0x30 + value)) ⊎ ((10 ≤ value) × (value < 16) × (code ≡ 0x61 + (value - 10)))

-- whether a byte code stands in a row of codes, the first and the last included
unfoldable pub within : (first last code : ℕ) → Bool
within first last code = leb first code && leb code last

-- "The value of each of the 256 byte codes as a hex digit", "255 for a byte that is no digit"
unfoldable pub digit_of : (code : ℕ) → ℕ
unfolding within
digit_of code = cond (within 0x30 0x39 code) (code - 0x30) (cond (within 0x61 0x66 code) (code - 0x61 + 10) 255)

-- the values of the first n codes
unfoldable pub first_digits : ℕ → List ℕ
first_digits zero = []
first_digits (suc n) = first_digits n ++ (digit_of n ∷ [])

-- "a table of 256 entries"
unfoldable pub digits : List ℕ
unfolding first_digits
digits = first_digits 256

-- the digit that stands for a value, with small letters; 0, which is none, for a value that is no digit's
unfoldable pub letter_of : (value : ℕ) → ℕ
letter_of value = cond (ltb value 10) (0x30 + value) (cond (ltb value 16) (0x61 + (value - 10)) 0)
