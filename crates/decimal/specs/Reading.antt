-- Reading a decimal number by place: the longest one that begins there.
use Rattle.std.specs.Prelude.{ℕ, ◌+◌, ◌*◌, ◌-◌, List, [], ◌∷◌, Bool, cond, ◌&&◌, leb, drop, Option, Some, None}
use Rattle.decimal.specs.declared.Numeral.{Numeral}

-- a number and the place after it
abbrev pub good_numeral : (value next : ℕ) → Numeral
good_numeral value next = record { value = value; next = next }

-- a figure of a decimal number
unfoldable pub is_figure : (byte : ℕ) → Bool
is_figure byte = leb 0x30 byte && leb byte 0x39

-- the number with one figure more
unfoldable pub with_figure : (value byte : ℕ) → ℕ
with_figure value byte = value * 10 + (byte - 0x30)

-- "at most 4294967295, with no leading zero except `0` itself": a number goes on with a figure unless it is 0 or would be too large
unfoldable pub goes_on : (value byte : ℕ) → Bool
goes_on value byte = is_figure byte && leb 1 value && leb (with_figure value byte) 4294967295

-- the rest of a number: as many figures as go on with it
unfoldable pub going_on : (value at : ℕ) (text : List ℕ) → Numeral
going_on value at [] = good_numeral value at
going_on value at (byte ∷ rest) = cond (goes_on value byte) (going_on (with_figure value byte) (at + 1) rest) (good_numeral value at)

-- "Numbers are decimal": the number that stands first in the bytes from a place; none where no figure does
unfoldable pub first_numeral : (at : ℕ) (text : List ℕ) → Option Numeral
first_numeral at [] = None
first_numeral at (byte ∷ rest) = cond (is_figure byte) (Some (going_on (byte - 0x30) (at + 1) rest)) None

unfoldable pub numeral_at : (text : List ℕ) (at : ℕ) → Option Numeral
numeral_at text at = first_numeral at (drop at text)
