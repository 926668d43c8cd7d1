-- A message that arrives in pieces: each is given to update in its turn.
use Rattle.std.specs.Prelude.{ℕ, List, [], ◌∷◌, ◌++◌}
use Rattle.hash.specs.Update.{update}
use Rattle.hash.specs.declared.Hash.{Hash}
use Rattle.hash.specs.declared.Updated.{Updated}

-- the pieces, joined
unfoldable pub joined : List (List ℕ) → List ℕ
joined [] = []
joined (piece ∷ pieces) = piece ++ joined pieces

-- the state after the last of them, of any update
unfoldable pub after_all_of : (updating : Hash → List ℕ → Updated) → Hash → List (List ℕ) → Hash
after_all_of updating h [] = h
after_all_of updating h (piece ∷ pieces) = after_all_of updating (updating h piece).state pieces

-- the number that each answers
unfoldable pub numbers_of : (updating : Hash → List ℕ → Updated) → Hash → List (List ℕ) → List ℕ
numbers_of updating h [] = []
numbers_of updating h (piece ∷ pieces) = (updating h piece).number ∷ numbers_of updating (updating h piece).state pieces

abbrev pub after_all : Hash → List (List ℕ) → Hash
after_all = after_all_of update

abbrev pub numbers : Hash → List (List ℕ) → List ℕ
numbers = numbers_of update
