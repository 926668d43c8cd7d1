-- Whether two lots of bytes are the same: as many, and equal one by one.
use Rattle.std.specs.Prelude.{ℕ, List, [], ◌∷◌, Bool, true, false, ◌&&◌, eqb, length, replicate}

unfoldable pub same : List ℕ → List ℕ → Bool
same [] [] = true
same [] (y ∷ ys) = false
same (x ∷ xs) [] = false
same (x ∷ xs) (y ∷ ys) = eqb x y && same xs ys

-- whether all of them are zero
abbrev pub all_zero : List ℕ → Bool
all_zero bytes = same bytes (replicate (length bytes) 0)
