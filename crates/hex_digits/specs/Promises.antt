-- What the crate promises of the table: document 01, "The rank sheet".
use Rattle.std.specs.Prelude.{ℕ, ◌+◌, ◌-◌, ◌<◌, ◌≤◌, ◌≡◌, ◌↔◌, ◌⊎◌, length, get_or}
use Rattle.hex_digits.specs.Digits.{IsDigit, digit_of, digits, letter_of}

pub record Promises : Type 0 where
  -- "a table of 256 entries"
  pub size : length digits ≡ 256
  -- "The value of each of the 256 byte codes as a hex digit is a table of 256 entries"
  pub entry : (code : ℕ) → code < 256 → get_or digits code 0 ≡ digit_of code
  -- "characters of 0-9 and a-f", and what each stands for
  pub is_digit :
      (code value : ℕ)
      → IsDigit code value
      ↔ (((value < 10) × (code ≡ 0x30 + value)) ⊎ ((10 ≤ value) × (value < 16) × (code ≡ 0x61 + (value - 10))))
  -- a value below 16 is exactly that of a character "of 0-9 and a-f"
  pub digit : (code value : ℕ) → IsDigit code value ↔ ((digit_of code ≡ value) × (value < 16))
  -- "255 for a byte that is no digit"
  pub other : (code : ℕ) → ((value : ℕ) → IsDigit code value → ⊥) ↔ (digit_of code ≡ 255)
  -- what is written for a value below 16 is a digit of that value, and reads back as it; nothing is written for another
  pub letter : (value : ℕ) → value < 16 → IsDigit (letter_of value) value
  pub reads_back : (value : ℕ) → value < 16 → digit_of (letter_of value) ≡ value
  pub no_letter : (value : ℕ) → 16 ≤ value → letter_of value ≡ 0
  -- and a digit of its value is the one that is written (until capitals are digits too)
  pub one_letter : (code value : ℕ) → IsDigit code value → code ≡ letter_of value
