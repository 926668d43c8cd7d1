-- What a decimal number is: document 01, "The rank sheet". No reader and no writer is in it.
use Rattle.std.specs.Prelude.{ℕ, ◌+◌, ◌*◌, ◌<◌, ◌≤◌, List, [], ◌∷◌, ◌++◌}

-- "Numbers are decimal, .. with no leading zero except `0` itself": one figure, or a number other than 0 and one figure more
pub data Decimal : (text : List ℕ) (value : ℕ) → Type 0 where
  figure : (d : ℕ) → d < 10 → Decimal ((0x30 + d) ∷ []) d
  longer : {text : List ℕ} {value : ℕ} (d : ℕ) → Decimal text value → 1 ≤ value → d < 10
      → Decimal (text ++ ((0x30 + d) ∷ [])) (value * 10 + d)

-- "at most 4294967295"
unfoldable pub IsNumber : (text : List ℕ) (value : ℕ) → Type 0
IsNumber text value = Decimal text value × (value ≤ 4294967295)
