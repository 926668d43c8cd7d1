-- What is promised of decimal numbers, read and written: document 01, "The rank sheet".
use Rattle.std.specs.Prelude.{ℕ, ◌+◌, ◌*◌, ◌-◌, ◌^◌, ◌≤◌, ◌<◌, ◌≡◌, ◌↔◌, List, [], ◌∷◌, ◌++◌, true, false}
use Rattle.std.specs.Prelude.{length, drop, replicate, Some, None}
use Rattle.decimal.specs.Numbers.{Decimal, IsNumber}
use Rattle.decimal.specs.Reading.{is_figure, numeral_at}
use Rattle.decimal.specs.Writing.{decimal, figures_of}
use Rattle.decimal.specs.declared.Numeral.{Numeral}

-- the number that is read at a place stands there, and is a number
pub record Stands (text : List ℕ) (at next value : ℕ) : Type 0 where
  pub number : List ℕ
  pub is_number : IsNumber number value
  pub cut : drop at text ≡ number ++ drop next text
  pub ends : next ≡ at + length number

-- the text from a place on goes on with no figure
abbrev pub NoFigure : (rest : List ℕ) → Type 0
NoFigure rest = (byte : ℕ) (more : List ℕ) → rest ≡ byte ∷ more → is_figure byte ≡ false

pub record Promises : Type 0 where
  -- a figure, by its byte
  pub figures : (byte : ℕ) → (is_figure byte ≡ true) ↔ ((0x30 ≤ byte) × (byte ≤ 0x39))
  -- a figure stands for its number, and one figure more makes ten times it and that
  pub one_figure : (d : ℕ) → d < 10 → Decimal ((0x30 + d) ∷ []) d
  pub figure_more :
      (text : List ℕ) (value d : ℕ) → Decimal text value → 1 ≤ value → d < 10
      → Decimal (text ++ ((0x30 + d) ∷ [])) (value * 10 + d)
  -- "at most 4294967295"
  pub is_number : (text : List ℕ) (value : ℕ) → IsNumber text value ↔ (Decimal text value × (value ≤ 4294967295))
  -- a number has one spelling, and a spelling is of one number
  pub one_spelling : (text other : List ℕ) (value : ℕ) → Decimal text value → Decimal other value → text ≡ other
  pub one_value : (text : List ℕ) (value other : ℕ) → Decimal text value → Decimal text other → value ≡ other
  -- what is read is a number that stands there
  pub found_stands : (text : List ℕ) (at : ℕ) (n : Numeral) → numeral_at text at ≡ Some n → Stands text at n.next n.value
  -- the longest one that does,
  pub longest :
      (text number rest : List ℕ) (at value : ℕ) → IsNumber number value → drop at text ≡ number ++ rest
      → (n : Numeral) × (numeral_at text at ≡ Some n) × (at + length number ≤ n.next)
  -- and where none is found, none begins there
  pub none_stands :
      (text : List ℕ) (at : ℕ) → numeral_at text at ≡ None
      → (number rest : List ℕ) (value : ℕ) → IsNumber number value → drop at text ≡ number ++ rest → ⊥
  -- a number before something that is no figure is read
  pub reads :
      (text number rest : List ℕ) (at value : ℕ) → IsNumber number value → NoFigure rest → drop at text ≡ number ++ rest
      → numeral_at text at ≡ Some (record { value = value; next = at + length number })
  -- what is written spells the number,
  pub spells : (n : ℕ) → Decimal (decimal n) n
  -- at the end of twenty bytes, behind zeros,
  pub laid :
      (n : ℕ)
      → figures_of n ≡ record { bytes = replicate (20 - length (decimal n)) 0 ++ decimal n; from = 20 - length (decimal n) }
  -- so it is read back,
  pub reads_back :
      (n : ℕ) (rest : List ℕ) → n ≤ 4294967295 → NoFigure rest
      → numeral_at (decimal n ++ rest) 0 ≡ Some (record { value = n; next = length (decimal n) })
  -- and a number below 10^k has at most k figures, one at least
  pub at_most : (n k : ℕ) → 1 ≤ k → n < 10 ^ k → (1 ≤ length (decimal n)) × (length (decimal n) ≤ k)
