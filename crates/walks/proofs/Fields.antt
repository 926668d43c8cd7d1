-- What one field of a struct owns, out of what the struct owns: the fields may hold references.
-- Assumes `Logic`.
use mathlib.Core.Path.{◌≡◌}
use Prim.Native.Nat.{ℕ}
use mathlib.Core.List.{List, [], ◌∷◌}
use seplogic.Ra.Ura.{Ura}
use mir.Val.{Val, vstruct}
use types.Logic.{Logic}
use types.Kit.{Item, Goal, Step, step, ‵, ◌⊛◌, given, ◌$◌, move, drop, use1, split, learn}
use denote.Struct.At.{get_at, spelled}
use denote.Struct.Declared.{Declared, shape}
use denote.Struct.Laws.{Lawss}
use denote.Struct.Rest.{all_own, field_own, rest, own_open, own_out}
use denote.Struct.Struct.{Struct}
use denote.Struct.Values.{Values, intos}

module _ {M : Type 1} {𝓤 : Ura M} {𝓛 : Logic 𝓤} {K : Type 0} {Γ : List (Item 𝓤)} {G : Goal 𝓤 𝓛.H} where
  -- field k of the struct of the fields' values v
  pub field_out : K → (N : Declared) (L : Lawss N.parts) (k : ℕ) (v : Values N.parts) (w : Val)
      → Step K 𝓛 (‵ (field_own N.parts L k (get_at N.parts k v)) ∷ Γ) G (‵ ((Struct (shape N)).own_val (intos N.parts v) (w ∷ [])) ∷ Γ) G
  field_out t N L k v w = step (λ s.
      use1 𝓛 (given (w ∷ [] ≡ vstruct (spelled N.parts L v) ∷ []) (‵ (all_own N.parts L v))) (own_open 𝓛 N L v w) $ learn t (λ _.
      use1 𝓛 (‵ (field_own N.parts L k (get_at N.parts k v)) ⊛ ‵ (rest N.parts L k v)) (own_out 𝓛 N.parts L k v) $ split t $ move t (1 ∷ []) $ drop t $ s))
