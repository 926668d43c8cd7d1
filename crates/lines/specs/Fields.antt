-- The fields of a line: numbers and digests.
use Rattle.std.specs.Prelude.{ℕ, zero, suc, ◌+◌, ◌*◌, List, [], ◌∷◌, ◌++◌, Bool, cond, ltb, get_or, replicate, Option, Some, None, Result, Ok, Err}
use Rattle.hex_digits.specs.Digits.{digit_of}
use Rattle.decimal.specs.Reading.{numeral_at}
use Rattle.decimal.specs.declared.Numeral.{Numeral}
use Rattle.lines.specs.declared.Fault.{Fault}
use Rattle.lines.specs.declared.Read.{Read}
use Rattle.lines.specs.declared.Wanted.TheVariants
use Rattle.lines.specs.declared.Field.{Field}
use Rattle.lines.specs.declared.Stop.{Stop}
use Rattle.lines.specs.Reading.{number, separator, digit, good_stop, fault, is_good, has_at, fault_of}

-- what a digest's step answers, as `Field` a number's: where it stopped, and what it read
pub record DigestField : Type 0 where
  pub stop : Stop
  pub digest : List ℕ

-- a field's value, and the place after it; or what was wanted, and where
abbrev pub good_field : (value next : ℕ) → Field
good_field value next = record { stop = good_stop next; value = value }

abbrev pub field_fault : Stop → Field
field_fault stop = record { stop = stop; value = 0 }

-- a number and the byte that ends its field
unfoldable pub field_behind : (text : List ℕ) (at ending : ℕ) → Option Numeral → Field
field_behind text at ending None = field_fault (fault number at)
field_behind text at ending (Some n) =
    cond (has_at text n.next ending) (good_field n.value (n.next + 1)) (field_fault (fault separator n.next))

unfoldable pub field_at : (text : List ℕ) (at ending : ℕ) → Field
field_at text at ending = field_behind text at ending (numeral_at text at)

unfoldable pub field_after : (text : List ℕ) (before : Stop) (ending : ℕ) → Field
field_after text before ending = cond (is_good before) (field_at text before.at ending) (field_fault before)

-- a digest's bytes, and the place after its digits; or where a digit was wanted
abbrev pub good_digest : (bytes : List ℕ) (next : ℕ) → DigestField
good_digest bytes next = record { stop = good_stop next; digest = bytes }

abbrev pub digest_fault : Stop → DigestField
digest_fault stop = record { stop = stop; digest = replicate 32 0 }

-- the value of the digit at a place, past the end that of a byte which is no digit; and whether there is a digit
unfoldable pub digit_at : (text : List ℕ) (at : ℕ) → ℕ
digit_at text at = digit_of (get_or text at 0)

unfoldable pub is_digit_at : (text : List ℕ) (at : ℕ) → Bool
is_digit_at text at = ltb (digit_at text at) 16

-- the byte of two digits
unfoldable pub pair_at : (text : List ℕ) (at : ℕ) → ℕ
pair_at text at = digit_at text at * 16 + digit_at text (at + 1)

-- so many bytes more, each of two digits, behind those that are read
unfoldable pub digest_from : (more : ℕ) (text : List ℕ) (at : ℕ) (read : List ℕ) → DigestField
digest_from zero text at read = good_digest read at
digest_from (suc more) text at read =
    let rest = digest_from more text (at + 2) (read ++ (pair_at text at ∷ [])) in
    cond (is_digit_at text at) (cond (is_digit_at text (at + 1)) rest (digest_fault (fault digit (at + 1)))) (digest_fault (fault digit at))

-- "A digest is 64 characters": digits, by the table of `hex`
unfoldable pub digest_at : (text : List ℕ) (at : ℕ) → DigestField
digest_at text at = digest_from 32 text at []

unfoldable pub digest_after : (text : List ℕ) (before : Stop) → DigestField
digest_after text before = cond (is_good before) (digest_at text before.at) (digest_fault before)

-- what the code's steps answer
abbrev pub field_of : Result (Read ℕ) Fault → Field
field_of (Ok r) = good_field r.value r.next
field_of (Err f) = field_fault (fault_of f)

abbrev pub digest_of : Result (Read (List ℕ)) Fault → DigestField
digest_of (Ok r) = good_digest r.value r.next
digest_of (Err f) = digest_fault (fault_of f)

-- one digit of a digest
unfoldable pub digit_read : (text : List ℕ) (at : ℕ) → Result ℕ Fault
digit_read text at = cond (is_digit_at text at) (Ok (digit_at text at)) (Err (record { wanted = TheVariants.Digit; at = at }))
