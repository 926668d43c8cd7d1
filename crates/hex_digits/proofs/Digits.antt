-- What the table says of a byte, and which bytes are digits.
-- Assumes nothing.
use Prim.Native.Nat.{ℕ, ◌+◌, ◌-◌, ◌<◌, ◌≤◌}
use mathlib.Core.Path.{◌≡◌, refl, sym, ◌∙◌}
use mathlib.Core.Logic.{◌⊎◌, inl, inr, ⊎_elim}
use mathlib.Core.Bool.{Bool, true, false, ◌&&◌, false≢true}
use native.Mathlib.Decide.{dec_lt}
use native.Mathlib.Omega.{arith}
use borrow.Author.Tests.{leb-true, le-leb, lt-leb, lt-ltb, le-ltb}
use lib.Dec.{eqb, eqb→eq, leb}
use lib.ListN.{get_or}
use Rattle.hex_digits.specs.Digits.{within, digit_of, digits, letter_of, IsDigit}
use Rattle.hex_digits.proofs.Every.{at}

-- the test of an entry: it is the value of its place
right : ℕ → ℕ → Bool
right code entry = eqb entry (digit_of code)

-- the rule of the table, by a test that is computed at each of its entries
pub rule : (code : ℕ) → code < 256 → get_or digits code 0 ≡ digit_of code
unfolding digits right digit_of
rule code below = eqb→eq (get_or digits code 0) (digit_of code) (at right digits tt code below)

-- a digit has its value
pub digit_value : (code value : ℕ) → IsDigit code value → digit_of code ≡ value
unfolding IsDigit digit_of within
digit_value code value (inl h) = simp (le-leb 0x30 code (omega arith), le-leb code 0x39 (omega arith)) (omega arith)
digit_value code value (inr h) =
    simp (le-leb 0x30 code (omega arith), lt-leb code 0x39 (omega arith), le-leb 0x61 code (omega arith), le-leb code 0x66 (omega arith)) (omega arith)

-- a code of a row
in_row : (first last code : ℕ) → within first last code ≡ true → (first ≤ code) × (code ≤ last)
unfolding within
in_row first last code h = go (leb first code) (leb code last) refl refl h
  where
    go : (a b : Bool) → leb first code ≡ a → leb code last ≡ b → (a && b) ≡ true → (first ≤ code) × (code ≤ last)
    go true true ea eb h = (leb-true _ _ ea, leb-true _ _ eb)
    go true false ea eb h = absurd (false≢true h)
    go false b ea eb h = absurd (false≢true h)

-- a value is below 16 and then a digit's, or it is 255
pub digit_or_none : (code : ℕ) → ((digit_of code < 16) × IsDigit code (digit_of code)) ⊎ (digit_of code ≡ 255)
unfolding IsDigit digit_of
digit_or_none code = go (within 0x30 0x39 code) (within 0x61 0x66 code) refl refl
  where
    go : (a b : Bool) → within 0x30 0x39 code ≡ a → within 0x61 0x66 code ≡ b → ((digit_of code < 16) × IsDigit code (digit_of code)) ⊎ (digit_of code ≡ 255)
    go true b ea eb =
        let row = in_row 0x30 0x39 code ea in
        let value : digit_of code ≡ code - 0x30 = simp ea in
        inl (omega arith, inl (omega arith, omega arith))
    go false true ea eb =
        let row = in_row 0x61 0x66 code eb in
        let value : digit_of code ≡ code - 0x61 + 10 = simp (ea, eb) in
        inl (omega arith, inr (omega arith, omega arith, omega arith))
    go false false ea eb = inr (simp (ea, eb))

-- past a text's end a byte reads as 0, which is no digit
pub no_byte : digit_of 0 ≡ 255
unfolding digit_of
no_byte = refl

-- a digit stands for less than 16
pub digit_below : (code value : ℕ) → IsDigit code value → value < 16
unfolding IsDigit
digit_below code value (inl h) = omega arith
digit_below code value (inr h) = omega arith

-- where the value is below 16 there is a digit
pub value_digit : (code : ℕ) → digit_of code < 16 → IsDigit code (digit_of code)
value_digit code below = ⊎_elim (λ h. h.1) (λ h. absurd (omega arith)) (digit_or_none code)

-- the digit that is written, by its value
pub letter_figure : (value : ℕ) → value < 10 → letter_of value ≡ 0x30 + value
unfolding letter_of
letter_figure value h = simp (lt-ltb value 10 h)

pub letter_letter : (value : ℕ) → 10 ≤ value → value < 16 → letter_of value ≡ 0x61 + (value - 10)
unfolding letter_of
letter_letter value low high = simp (le-ltb value 10 low, lt-ltb value 16 high)

pub letter_none : (value : ℕ) → 16 ≤ value → letter_of value ≡ 0
unfolding letter_of
letter_none value h = simp (le-ltb value 10 (omega arith), le-ltb value 16 h)

-- a digit is the one that is written for its value
pub one_letter : (code value : ℕ) → IsDigit code value → code ≡ letter_of value
unfolding IsDigit
one_letter code value (inl h) = h.1 ∙ sym (letter_figure value h.0)
one_letter code value (inr h) = h.2 ∙ sym (letter_letter value h.0 h.1)

-- and what is written is a digit
pub is_letter : (value : ℕ) → value < 16 → IsDigit (letter_of value) value
unfolding IsDigit
is_letter value h =
    elim (dec_lt value 10) [ yes low ↦ inl (low, letter_figure value low) | no high ↦ inr (omega arith, h, letter_letter value (omega arith) h) ]
