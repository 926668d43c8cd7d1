-- Lists. Assumes nothing.
use Prim.Native.Nat.{ℕ, zero, suc, ◌<◌}
use native.Mathlib.Nat.{not-suc-le-zero, le_of_suc-le-suc}
use mathlib.Core.Path.{◌≡◌, refl, sym, ◌∙◌}
use mathlib.Core.List.{List, [], ◌∷◌, map}
use lib.ListN.{length, get_or, length-map}

-- an element within the list is the same whatever is read past its end
pub getD_within : {A : Type 0} (l : List A) (i : ℕ) (d e : A) → i < length l → get_or l i d ≡ get_or l i e
getD_within [] i d e h = absurd (not-suc-le-zero h)
getD_within (x ∷ xs) zero d e h = refl
getD_within (x ∷ xs) (suc i) d e h = getD_within xs i d e (le_of_suc-le-suc h)

-- a list is as long as its image
pub length_of_image : {A B : Type 0} (f : A → B) (l : List A) (n : ℕ) → length (map f l) ≡ n → length l ≡ n
length_of_image f l n h = sym (length-map l f) ∙ h
