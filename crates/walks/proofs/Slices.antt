-- A `&mut [T]` is lent on for one call, and comes back at the list that the callee left behind it.
--     lent-on          the reference to the same elements, under another name
--     lends-on         it is lent for a lifetime of its own, at a machine value that is known to be its own
--     comes_back       that lifetime ends, and the slice is had again, as long as before
-- Assumes `Logic`.
use mathlib.Core.Path.{◌≡◌, sym, ap, ◌∙◌}
use Prim.Native.Nat.{ℕ}
use mathlib.Core.List.{List, [], ◌∷◌}
use lib.ListN.{length}
use seplogic.Ra.Ura.{Ura}
use base.Fraction.{full_share}
use mir.Syntax.{Lifetime}
use mir.Val.{Val}
use base.Fml.{GName, Lft, Share, flft}
use types.Logic.{Logic}
use types.Kit.{Goal, Soaks, Seq, Item, ‵, ◌⊛◌, some, given, later, ◌$◌, move, drop, use2, use3, pick, learn, split, await, fsplit, fjoin, feq_i}
use types.Tokens.{lft_new, lft_end}
use denote.RattleType.{RattleType}
use denote.Ref.{MutBor, at_last}
use denote.Slice.{slice_val, MutSlice, mut_slice_vals, finally}
use borrow.Table.Owned as O
use borrow.Rule.Slice.Lend.{kept_f, sl_relend, sl_relent_backˡ}

module _ (R : RattleType) (x : MutBor (List R.Denot)) where
  abbrev pub lent_on : GName → MutBor (List R.Denot)
  lent_on γ = record { ref_ptr = x.ref_ptr; ghost_name = γ; now = x.now }

  -- what the lender keeps
  abbrev pub KeptOf : {M : Type 1} {𝓤 : Ura M} (𝓛 : Logic 𝓤) → Lft → Share → Lft → GName → Item 𝓤
  KeptOf 𝓛 κ q κ' γ = kept_f 𝓛 R κ q κ' x.ghost_name γ x.now x.ref_ptr.0 x.ref_ptr.1

module _ {M : Type 1} {𝓤 : Ura M} {𝓛 : Logic 𝓤} {K : Type 0} {Γ : List (Item 𝓤)} {G : Goal 𝓤 𝓛.H} where
  pub lends_on : K → Soaks G → (R : RattleType) (ℓ ℓ' : Lifetime) {κ : Lft} {q : Share} (x : MutBor (List R.Denot)) {vs : List Val} (v : Val) → v ∷ [] ≡ mut_slice_vals x
      → ((ν : ℕ) (γ : GName) → Seq K 𝓛 (‵ ((MutSlice ℓ' (ν ∷ []) R).own_val (lent_on R x γ) (v ∷ [])) ∷ ‵ (flft (ν ∷ []) full_share) ∷ KeptOf R x 𝓛 κ q (ν ∷ []) γ ∷ Γ) G)
      → Seq K 𝓛 (‵ ((MutSlice ℓ κ R).own_val x vs) ∷ ‵ (flft κ q) ∷ Γ) G
  lends_on t z R ℓ ℓ' {κ} {q} x v is k =
      fsplit t $ fsplit t $ drop t $ fjoin t $ lft_new t z (λ ν. move t (1 ∷ 2 ∷ []) $
      use2 𝓛 (later (some (λ (γ : GName). ‵ ((O.MutSlice ℓ (ν ∷ []) R).own_val (lent_on R x γ)) ⊛ KeptOf R x 𝓛 κ q (ν ∷ []) γ))) (sl_relend 𝓛 R κ q (ν ∷ []) x.ref_ptr.0 x.ref_ptr.1 x.ghost_name x.now) $ await t z $ pick t (λ γ.
      split t $ fsplit t $ feq_i t (List Val) (v ∷ []) (mut_slice_vals x) is $ fjoin t $ fjoin t $ move t (0 ∷ 2 ∷ []) $ k ν γ))

  pub comes_back : K → Soaks G → (R : RattleType) (ℓ : Lifetime) {κ : Lft} {q : Share} (x : MutBor (List R.Denot)) (v : Val) → v ∷ [] ≡ mut_slice_vals x → (ys : List R.Denot) {ν : ℕ} {γ : GName}
      → (length ys ≡ length x.now → Seq K 𝓛 (‵ ((MutSlice ℓ κ R).own_val (at_last x ys) (v ∷ [])) ∷ ‵ (flft κ q) ∷ Γ) G)
      → Seq K 𝓛 (‵ (flft (ν ∷ []) full_share) ∷ KeptOf R x 𝓛 κ q (ν ∷ []) γ ∷ ‵ (finally R γ ys) ∷ Γ) G
  comes_back t z R ℓ {κ} {q} x v is ys {ν} {γ} k =
      lft_end t z $
      use3 𝓛 (later (given (length ys ≡ length x.now) (‵ ((O.MutSlice ℓ κ R).own_val (at_last x ys)) ⊛ ‵ (flft κ q)))) (sl_relent_backˡ 𝓛 R κ q (ν ∷ []) x.ref_ptr.0 x.ref_ptr.1 x.ghost_name γ x.now ys) $ await t z $ learn t (λ long.
      split t $ fsplit t $ feq_i t (List Val) (v ∷ []) (mut_slice_vals (at_last x ys)) (is ∙ ap (λ (n : ℕ). slice_val x.ref_ptr n ∷ []) (sym long)) $ fjoin t $ fjoin t $ k long)
