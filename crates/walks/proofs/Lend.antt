-- A local that holds a struct of plain data is lent by `&mut` for one call, and comes back at the value that the callee left behind the reference.
-- Assumes `Logic`.
use Prim.Native.Nat.{ℕ}
use mathlib.Core.List.{List, [], ◌∷◌}
use seplogic.Ra.Ura.{Ura}
use base.Fraction.{full_share}
use mir.Syntax.{Lifetime}
use mir.Val.{vptr}
use base.Fml.{GName, Lft, Fml, flft, flent, fres}
use types.Logic.{Logic}
use types.Kit.{Goal, Soaks, Seq, Step, step, Item, ‵, ◌⊛◌, some, later, ◌$◌, move, use1, use3, pick, split, await}
use types.SemTy.{Body}
use types.Tokens.{lft_new, lft_end}
use denote.Memory.{mem, part_at}
use denote.Ref.{MutBor, MutRef}
use denote.Lend.{lends_ref, ref_back}
use Rattle.walks.proofs.Borrow.{Data, row_of}

module _ (D : Data) (b o : ℕ) where
  -- the reference to what lies at (b, o), under the name γ
  abbrev pub lent_as : GName → D.type.D → MutBor D.type.D
  lent_as γ h = record { ref_ptr = (b, o); ghost_name = γ; now = h }

  -- what the lender keeps
  abbrev pub Owed : Lft → GName → Fml
  Owed κ γ = flent κ (Body (mem (row_of D)) b o γ)

module _ {M : Type 1} {𝓤 : Ura M} {𝓛 : Logic 𝓤} {K : Type 0} {Γ : List (Item 𝓤)} {G : Goal 𝓤 𝓛.H} where
  pub lends : K → Soaks G → (D : Data) (ℓ : Lifetime) (h : D.type.D) (b o : ℕ)
      → ((ν : ℕ) (γ : GName) → Seq K 𝓛 (‵ ((MutRef ℓ (ν ∷ []) (row_of D)).own_val (lent_as D b o γ h) (vptr b o ∷ [])) ∷ ‵ (flft (ν ∷ []) full_share) ∷ ‵ (Owed D b o (ν ∷ []) γ) ∷ Γ) G)
      → Seq K 𝓛 (‵ (part_at (row_of D) full_share h b o) ∷ Γ) G
  lends t z D ℓ h b o k = lft_new t z (λ ν. move t (1 ∷ []) $
      use1 𝓛 (later (some (λ (γ : GName). ‵ ((MutRef ℓ (ν ∷ []) (row_of D)).own_val (lent_as D b o γ h) (vptr b o ∷ [])) ⊛ ‵ (Owed D b o (ν ∷ []) γ)))) (lends_ref 𝓛 (row_of D) ℓ (ν ∷ []) h b o) $ await t z $ pick t (λ γ. split t $ move t (0 ∷ 2 ∷ []) $ k ν γ))

  pub regains : K → Soaks G → (D : Data) (h' : D.type.D) (b o : ℕ) {ν : ℕ} {γ : GName}
      → Step K 𝓛 (‵ (part_at (row_of D) full_share h' b o) ∷ Γ) G (‵ (flft (ν ∷ []) full_share) ∷ ‵ (Owed D b o (ν ∷ []) γ) ∷ ‵ (fres γ ((row_of D).coded.code h')) ∷ Γ) G
  regains t z D h' b o {ν} {γ} = step (λ s. lft_end t z $ use3 𝓛 (later (‵ (part_at (row_of D) full_share h' b o))) (ref_back 𝓛 (row_of D) (ν ∷ []) γ h' b o) $ await t z $ s)
