-- Writing a decimal number: its figures.
use Rattle.std.specs.Prelude.{ℕ, zero, suc, ◌+◌, ◌-◌, ◌/◌, ◌%◌, List, [], ◌∷◌, ◌++◌, cond, eqb, length, replicate}
use Rattle.decimal.specs.declared.Figures.{Figures}

-- the figures that stand before the last one: none of 0. (`most` only has to be large enough: a number has fewer figures than it is large.)
unfoldable pub figures_before : (most n : ℕ) → List ℕ
figures_before zero n = []
figures_before (suc most) n = cond (eqb n 0) [] (figures_before most (n / 10) ++ ((0x30 + n % 10) ∷ []))

-- a number's figures: those of its tenth, and the last one
unfoldable pub decimal : (n : ℕ) → List ℕ
decimal n = figures_before n (n / 10) ++ ((0x30 + n % 10) ∷ [])

-- them at the end of twenty bytes
unfoldable pub figures_of : (n : ℕ) → Figures
figures_of n = let zeros = 20 - length (decimal n) in record { bytes = replicate zeros 0 ++ decimal n; from = zeros }
