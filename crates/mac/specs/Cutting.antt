-- A message that arrives in pieces: each is given to a code's update in its turn. (The pieces, joined, are the crate hash's.)
use Rattle.std.specs.Prelude.{ℕ, List, [], ◌∷◌}
use Rattle.mac.specs.declared.Code.{Code}
use Rattle.mac.specs.declared.CodeUpdated.{CodeUpdated}

-- the state after the last of them, of any update
unfoldable pub after_all_of : (updating : Code → List ℕ → CodeUpdated) → Code → List (List ℕ) → Code
after_all_of updating c [] = c
after_all_of updating c (piece ∷ pieces) = after_all_of updating (updating c piece).state pieces

-- the number that each answers
unfoldable pub numbers_of : (updating : Code → List ℕ → CodeUpdated) → Code → List (List ℕ) → List ℕ
numbers_of updating c [] = []
numbers_of updating c (piece ∷ pieces) = (updating c piece).number ∷ numbers_of updating (updating c piece).state pieces
