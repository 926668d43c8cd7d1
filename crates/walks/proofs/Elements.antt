-- One element of an array of structs that lies within a struct in memory: it is taken out, and it or another is put in its place.
--     spot         where element i lies, as MIR computes it: its offset and then the array's
--     element      given i < n and how the array is cut out of the struct, `borrow.Struct.Way.Cut`:   the struct  ⊢  element i at its place ∗ (another there −∗ the struct with the other list)
--     same         the struct is cut so that the element goes back as it was
-- Assumes `Logic`.
use mathlib.Core.Path.{sym, subst, ◌∙◌}
use Prim.Native.Nat.{ℕ, ◌+◌, ◌*◌, ◌<◌}
use mathlib.Core.List.{List, [], ◌∷◌}
use lib.ListN.{length, get_or, set, length-set}
use lib.Seq.{set-get_or}
use seplogic.Ra.Ura.{Ura}
use base.Logic.{ent, sep, wand, apply∗}
use base.Fml.{Share, Fml}
use prog.Memory.{size}
use types.Logic.{Logic, sem}
use types.Kit.{‵, raw, ◌⊛◌, ◌$◌, ◌∵◌, !, qed, use1, use2, split, fsplit, fjoin, feq_l, feq_i, frame, assume, done}
use types.Share.{parts, arr_parts}
use denote.RattleType.{RattleType}
use denote.Memory.{mem, shares, part_at}
use denote.Array.{Array}
use denote.ArrayMemory.{Array-apart, Array-whole}
use denote.Index.{place, place_is, others, takes, puts}
use borrow.Struct.Way.{Cut}
use Rattle.walks.proofs.Borrow.{Data, row_of, mir_of}

module _ (E : Data) where
  abbrev pub spot : ℕ → ℕ → ℕ
  spot o i = i * size (mir_of E) + o

  module _ (q : Share) (a : ℕ × ℕ) (d : ℕ) (i : ℕ) where
    -- x as element i of the array at the offset d of a struct at a
    abbrev pub element_at : E.type.D → Fml
    element_at x = part_at (row_of E) q x a.0 (spot (a.1 + d) i)

module _ {M : Type 1} {𝓤 : Ura M} (𝓛 : Logic 𝓤) (E : Data) (R : RattleType) (n d : ℕ) (xs : List E.type.D) (q : Share) (a : ℕ × ℕ) (h : R.Denot) (i : ℕ) (d₀ : E.type.D) where
  abbrev Out : ℕ → R.Denot → E.type.D → Type 1
  Out p h' y = ent 𝓤 (sem 𝓛 (part_at R q h a.0 a.1)) (sep 𝓤 (sem 𝓛 (part_at (row_of E) q (get_or xs i d₀) a.0 p)) (wand 𝓤 (sem 𝓛 (part_at (row_of E) q y a.0 p)) (sem 𝓛 (part_at R q h' a.0 a.1))))

  at_place : (h' : R.Denot) (y : E.type.D) → i < n → Cut 𝓛 q R (Array (row_of E) n) d h h' xs (set xs i y) a → Out (place (size (mir_of E)) (a.1 + d) i) h' y
  at_place h' y l cut =
      let b : ℕ = a.0 in
      let o : ℕ = a.1 + d in
      let p : ℕ = place (size (mir_of E)) o i in
      qed 𝓛 (‵ (part_at R q h b a.1) ∷ []) ∵
      use1 𝓛 (‵ (part_at (Array (row_of E) n) q xs b o) ⊛ raw (wand 𝓤 (sem 𝓛 (part_at (Array (row_of E) n) q (set xs i y) b o)) (sem 𝓛 (part_at R q h' b a.1)))) cut $ split ! $
      use1 𝓛 (‵ ((arr_parts (shares (row_of E)) n).part q xs b o)) (Array-apart 𝓛 (row_of E) q tt n xs b o) $ fsplit ! $ feq_l ! (λ len.
      use1 𝓛 (‵ (part_at (row_of E) q (get_or xs i d₀) b p) ⊛ ‵ (others (shares (row_of E)) q xs i b o)) (takes (shares (row_of E)) q 𝓛 xs i d₀ b o (subst (λ (m : ℕ). i < m) (sym len) l)) $ split ! $ frame ! $
      assume ! (‵ (part_at (row_of E) q y b p)) $ use2 𝓛 (‵ (parts (mem (row_of E)) (shares (row_of E)) q (set xs i y) b o)) (puts (shares (row_of E)) q 𝓛 xs i y b o (subst (λ (m : ℕ). i < m) (sym len) l)) $
      feq_i ! ℕ (length (set xs i y)) n (length-set xs i y ∙ len) $ fjoin ! $ use1 𝓛 (‵ (part_at (Array (row_of E) n) q (set xs i y) b o)) (Array-whole 𝓛 (row_of E) q n (set xs i y) b o) $
      use2 𝓛 (‵ (part_at R q h' b a.1)) (apply∗ 𝓤 (sem 𝓛 (part_at (Array (row_of E) n) q (set xs i y) b o)) (sem 𝓛 (part_at R q h' b a.1))) $ done !)

  pub element : (h' : R.Denot) (y : E.type.D) → i < n → Cut 𝓛 q R (Array (row_of E) n) d h h' xs (set xs i y) a → Out (spot E (a.1 + d) i) h' y
  element h' y l cut = subst (λ (p : ℕ). Out p h' y) (place_is (size (mir_of E)) (a.1 + d) i) (at_place h' y l cut)

  pub same : Cut 𝓛 q R (Array (row_of E) n) d h h xs xs a → Cut 𝓛 q R (Array (row_of E) n) d h h xs (set xs i (get_or xs i d₀)) a
  same cut = subst (λ (ys : List E.type.D). Cut 𝓛 q R (Array (row_of E) n) d h h xs ys a) (sym (set-get_or xs i d₀)) cut
