-- Opening and closing the borrow of a struct of plain data, and taking a function's parameters and locals in and out of the context.
--     Data             a declared struct of plain data: its type, and the laws that its generated modules have
--     opened, closed   a `&mut` is opened, which gives what lies in memory, and closed at another value of the struct
--     looked, shut     a `&` is looked into, which gives a share of what lies in memory, and shut again. The reference stays
--     out, into        what lies in memory is the struct's cell, at its own MIR type, with its machine value written out; and back
--     known            what lies in memory stands for a value of the type
--     made, made-uint  what plain data owns is had for nothing, and what a number of a width owns
--     typed            a machine value of it may be stored
--     gone, unused     a local is freed, whatever it holds, and one that was never set
-- Assumes `Logic`.
use mathlib.Core.Path.{◌≡◌, refl, subst}
use Prim.Native.Nat.{ℕ, ◌<◌, ◌^◌}
use mathlib.Core.List.{List, [], ◌∷◌}
use lib.Dec.{T as Holds}
use seplogic.Ra.Ura.{Ura}
use base.Fraction.{full_share}
use mir.Syntax.{Ty, Width, Lifetime}
use mir.Val.{Val, WT, has_ty, vint, vptr, bits}
use base.Logic.{ent, sep, id⊢, via, mono_l, mono_r}
use base.Fml.{Lft, Share, Fml, fat, froom, fdies, fsep, flft, fobs, fauth, fobor}
use prog.Wp.{Env}
use types.Logic.{Logic}
use types.Kit.{Goal, Soaks, frees, Seq, Step, step, Item, ‵, mean, ⋆, nth, del, pull, push, ◌$◌, move, use1, drop, fsplit, fsplit3, fjoin, fjoin3, fpick, fpack, feq_i, split, ◌⊛◌}
use types.SemTy.{Body}
use types.Mut.{open_ref, close_ref}
use types.Run.{free1}
use denote.RattleType.{RattleType, RowLaws}
use denote.Laws.{Is, shows}
use denote.Plain.{UInt, uint_Makes}
use denote.Memory.{mem, cell_at, part_of, part_at, shared_of, lone}
use denote.Ref.{Bor, MutBor, MutRef, ShrRef, shr_copy, at_last}
use denote.Opens.{Shut, shr_open, shr_Shut}
use denote.Steps.{facts, owned}
use denote.Struct.Declared.{Declared, fields, row, shape}
use denote.Struct.Recorded.{Recorded-row_laws}
use denote.Struct.Struct.{Struct, Struct-row_laws, Plains}
use denote.Struct.Steps.{spelt}
use denote.Struct.Laws as LL

pub record Data : Type 2 where
  pub type : Declared
  pub laws : LL.Laws type
  pub plain : Plains (fields type)
  pub copies : LL.Copyables type.parts

module _ (D : Data) where
  abbrev pub row_of : RattleType
  row_of = row D.type

  -- the MIR type, with every declared type in it spelled out
  abbrev pub mir_of : Ty
  mir_of = lone row_of.mir

  abbrev pub machine : D.type.D → Val
  machine h = LL.val D.type D.laws h

  -- h stands for a value of the type
  abbrev pub IsData : D.type.D → Type 0
  IsData h = Is row_of h (machine h ∷ [])

  abbrev pub cell : Share → ℕ × ℕ → D.type.D → Fml
  cell q p h = fat q mir_of p.0 p.1 (machine h)

  module _ {M : Type 1} {𝓤 : Ura M} (𝓛 : Logic 𝓤) where
    pub typed : (h : D.type.D) → IsData h → Holds (has_ty mir_of (machine h)) × WT (machine h)
    typed h is = ((LL.lawful D.type D.laws 𝓛).typed h (machine h ∷ []) is).0

  module _ {M : Type 1} (𝓤 : Ura M) where
    -- what is had of a `&mut` beside the cell, while it is open
    abbrev pub Opened : Lft → Share → MutBor D.type.D → Item 𝓤
    Opened κ q x = ‵ (fsep (fobor κ q (Body (mem row_of) x.ref_ptr.0 x.ref_ptr.1 x.ghost_name)) (fsep (fobs x.ghost_name (row_of.coded.code x.now)) (fauth x.ghost_name (row_of.coded.code x.now))))

  module _ {M : Type 1} {𝓤 : Ura M} (𝓛 : Logic 𝓤) where
    -- and of a `&`: the way back of its token, for the share that was had
    abbrev pub Looked : Lft → Share → Share → Bor D.type.D → Item 𝓤
    Looked κ q q' x = Shut 𝓛 κ q (part_at row_of q' x.now x.ref_ptr.0 x.ref_ptr.1)

  -- a `&` to it can be had twice
  pub row_laws_of : RowLaws row_of
  row_laws_of = Recorded-row_laws (Struct (shape D.type)) D.type.D D.type.to D.type.to_one (Struct-row_laws (shape D.type) (LL.copy_row_laws D.type.parts D.copies))

module _ {M : Type 1} {𝓤 : Ura M} {𝓛 : Logic 𝓤} {K : Type 0} {Γ : List (Item 𝓤)} where
  open 𝓛 use {H}

  module _ {G : Goal 𝓤 H} where
    pub made : K → (D : Data) (h : D.type.D) → IsData D h → Step K 𝓛 (‵ ((row_of D).own_val h (machine D h ∷ [])) ∷ Γ) G Γ G
    made t D h is = owned t (row_of D) (Is (row_of D)) (LL.makes D.type D.plain 𝓛) h (machine D h ∷ []) is

    pub made_uint : K → (w : Width) (n : ℕ) → n < 2 ^ bits w → Step K 𝓛 (‵ ((UInt w).own_val n (vint w n ∷ [])) ∷ Γ) G Γ G
    made_uint t w n fits = owned t (UInt w) (Is (UInt w)) (uint_Makes 𝓛 w) n (vint w n ∷ []) (refl, fits)

module _ {M : Type 1} {𝓤 : Ura M} {𝓛 : Logic 𝓤} {K : Type 0} {Γ : List (Item 𝓤)} where
  open 𝓛 use {H}

  module _ {G : Goal 𝓤 H} where
    -- what lies in memory, as its cell with the machine value written out; and back
    pub out : K → (D : Data) (q : Share) (h : D.type.D) {b o : ℕ} → (IsData D h → Seq K 𝓛 (‵ (cell D q (b, o) h) ∷ Γ) G) → Seq K 𝓛 (‵ (part_at (row_of D) q h b o) ∷ Γ) G
    unfolding part_of
    out t D q h {b} {o} k =
        fpick t (λ us. fsplit t $ spelt t (row_of D) (Is (row_of D)) (shows 𝓛 (row_of D)) (LL.vals D.type D.laws) (LL.tells D.type D.laws) q h us b o $
        use1 𝓛 (‵ (cell D q (b, o) h)) (𝓛.laws.raw_at q (mir_of D) b o (machine D h)) $ move t (1 ∷ []) $ facts t (row_of D) (Is (row_of D)) (shows 𝓛 (row_of D)) h (machine D h ∷ []) k)

    pub into : K → (D : Data) (q : Share) (h : D.type.D) {b o : ℕ} → IsData D h → Step K 𝓛 (‵ (part_at (row_of D) q h b o) ∷ Γ) G (‵ (cell D q (b, o) h) ∷ Γ) G
    unfolding part_of
    into t D q h {b} {o} is = step (λ s.
        use1 𝓛 (‵ (cell_at q (row_of D).mir (machine D h ∷ []) b o)) (𝓛.laws.at_raw q (mir_of D) b o (machine D h)) $ made t D h is $ move t (1 ∷ 0 ∷ []) $ fjoin t $
        fpack t (List Val) (λ us. fsep (cell_at q (row_of D).mir us b o) ((row_of D).own_val h us)) (machine D h ∷ []) $ s)

    pub opened : K → Soaks G → (D : Data) (ℓ : Lifetime) {κ : Lft} {q : Share} (x : MutBor D.type.D) {vs : List Val}
        → Step K 𝓛 (‵ (part_at (row_of D) full_share x.now x.ref_ptr.0 x.ref_ptr.1) ∷ Opened D 𝓤 κ q x ∷ Γ) G (‵ ((MutRef ℓ κ (row_of D)).own_val x vs) ∷ ‵ (flft κ q) ∷ Γ) G
    opened t z D ℓ x = step (λ s. fsplit3 t $ drop t $ open_ref t z (mem (row_of D)) $ move t (1 ∷ 2 ∷ 3 ∷ []) $ fjoin3 t $ move t (1 ∷ 0 ∷ []) $ s)

    pub closed : K → Soaks G → (D : Data) (ℓ : Lifetime) {κ : Lft} {q : Share} (x : MutBor D.type.D) (h' : D.type.D)
        → Step K 𝓛 (‵ ((MutRef ℓ κ (row_of D)).own_val (at_last x h') (vptr x.ref_ptr.0 x.ref_ptr.1 ∷ [])) ∷ ‵ (flft κ q) ∷ Γ) G (‵ (part_at (row_of D) full_share h' x.ref_ptr.0 x.ref_ptr.1) ∷ Opened D 𝓤 κ q x ∷ Γ) G
    closed t z D ℓ x h' = step (λ s. move t (1 ∷ []) $ fsplit3 t $ move t (3 ∷ 0 ∷ []) $ close_ref t z (mem (row_of D)) h' $
        feq_i t (List Val) (vptr x.ref_ptr.0 x.ref_ptr.1 ∷ []) (vptr x.ref_ptr.0 x.ref_ptr.1 ∷ []) refl $ fjoin3 t $ s)

    pub looked : K → Soaks G → (D : Data) (ℓ : Lifetime) {κ : Lft} {q : Share} (x : Bor D.type.D) {vs : List Val}
        → ((q' : Share) → Seq K 𝓛 (‵ (part_at (row_of D) q' x.now x.ref_ptr.0 x.ref_ptr.1) ∷ Looked D 𝓛 κ q q' x ∷ ‵ ((ShrRef ℓ κ (row_of D)).own_val x vs) ∷ Γ) G)
        → Seq K 𝓛 (‵ ((ShrRef ℓ κ (row_of D)).own_val x vs) ∷ ‵ (flft κ q) ∷ Γ) G
    looked t z D ℓ {κ} x {vs} k =
        use1 𝓛 (‵ ((ShrRef ℓ κ (row_of D)).own_val x vs) ⊛ ‵ ((ShrRef ℓ κ (row_of D)).own_val x vs)) ((shr_copy 𝓛 ℓ κ (row_of D) (row_laws_of D)).twice x vs) $ split t $
        fsplit t $ drop t $ move t (0 ∷ 2 ∷ []) $
        shr_open t z (λ q'. part_at (row_of D) q' x.now x.ref_ptr.0 x.ref_ptr.1) (shared_of (row_of D) x.now x.ref_ptr.0 x.ref_ptr.1) ((LL.copied D.type D.copies 𝓛).opens x.now x.ref_ptr.0 x.ref_ptr.1).0 (λ q'. move t (1 ∷ 0 ∷ []) $ k q')

    pub shut : K → Soaks G → (D : Data) {κ : Lft} {q : Share} (q' : Share) (x : Bor D.type.D)
        → Step K 𝓛 (‵ (flft κ q) ∷ Γ) G (‵ (part_at (row_of D) q' x.now x.ref_ptr.0 x.ref_ptr.1) ∷ Looked D 𝓛 κ q q' x ∷ Γ) G
    shut t z D q' x = step (λ s. move t (1 ∷ 0 ∷ []) $ shr_Shut t z $ s)

module _ {M : Type 1} {𝓤 : Ura M} {𝓛 : Logic 𝓤} {K : Type 0} {Γ : List (Item 𝓤)} where
  open 𝓛 use {H}

  module _ {G : Goal 𝓤 H} where
    -- what lies in memory stands for a value of the type
    pub known : K → (D : Data) (q : Share) (h : D.type.D) (b o : ℕ) → (IsData D h → Seq K 𝓛 (‵ (part_at (row_of D) q h b o) ∷ Γ) G) → Seq K 𝓛 (‵ (part_at (row_of D) q h b o) ∷ Γ) G
    known t D q h b o k = out t D q h (λ is. into t D q h is $ k is)

  -- room for a local, and what says that it may be freed, out of the context
  free_out : K → (n : ℕ) (i : Item 𝓤) {τ : Ty} {b : ℕ} {E : Env 𝓤 H} {g : Goal 𝓤 H} → ent 𝓤 (mean 𝓛 i) (H.room τ b 0) → nth 𝓛 n Γ ≡ i → nth 𝓛 n (del 𝓛 n Γ) ≡ ‵ (fdies τ b)
      → Step K 𝓛 (del 𝓛 n (del 𝓛 n Γ)) (frees E g) Γ (frees ((τ, b) ∷ E) g)
  free_out t n i {τ} {b} room e d = step (λ s. record {
    prf =
        let Δ : List (Item 𝓤) = del 𝓛 n Γ in
        let Δ' : List (Item 𝓤) = del 𝓛 n Δ in
        via 𝓤 (sep 𝓤 (mean 𝓛 i) (⋆ 𝓛 Δ)) (subst (λ (j : Item 𝓤). ent 𝓤 (⋆ 𝓛 Γ) (sep 𝓤 (mean 𝓛 j) (⋆ 𝓛 Δ))) e (pull 𝓛 n Γ))
        (via 𝓤 (sep 𝓤 (H.room τ b 0) (⋆ 𝓛 Δ)) (mono_l 𝓤 (⋆ 𝓛 Δ) room)
        (via 𝓤 (sep 𝓤 (H.room τ b 0) (⋆ 𝓛 (‵ (fdies τ b) ∷ Δ')))
        (mono_r 𝓤 (H.room τ b 0) (via 𝓤 (sep 𝓤 (H.dies τ b) (⋆ 𝓛 Δ')) (subst (λ (j : Item 𝓤). ent 𝓤 (⋆ 𝓛 Δ) (sep 𝓤 (mean 𝓛 j) (⋆ 𝓛 Δ'))) d (pull 𝓛 n Δ)) (push 𝓛 (‵ (fdies τ b)) Δ')))
        (free1 t $ s).prf));
  })

module _ {M : Type 1} {𝓤 : Ura M} {𝓛 : Logic 𝓤} {K : Type 0} {Γ : List (Item 𝓤)} where
  -- entry n is a local that holds something
  open 𝓛 use {H}

  pub gone : K → (n : ℕ) {τ : Ty} {b : ℕ} {v : Val} {E : Env 𝓤 H} {g : Goal 𝓤 H} → nth 𝓛 n Γ ≡ ‵ (fat full_share τ b 0 v) → nth 𝓛 n (del 𝓛 n Γ) ≡ ‵ (fdies τ b)
      → Step K 𝓛 (del 𝓛 n (del 𝓛 n Γ)) (frees E g) Γ (frees ((τ, b) ∷ E) g)
  gone t n {τ} {b} {v} e d = free_out t n (‵ (fat full_share τ b 0 v)) (𝓛.laws.at_room τ b 0 v) e d

  -- entry n is room for a local that was never set
  pub unused : K → (n : ℕ) {τ : Ty} {b : ℕ} {E : Env 𝓤 H} {g : Goal 𝓤 H} → nth 𝓛 n Γ ≡ ‵ (froom τ b 0) → nth 𝓛 n (del 𝓛 n Γ) ≡ ‵ (fdies τ b)
      → Step K 𝓛 (del 𝓛 n (del 𝓛 n Γ)) (frees E g) Γ (frees ((τ, b) ∷ E) g)
  unused t n {τ} {b} e d = free_out t n (‵ (froom τ b 0)) (id⊢ 𝓤 (H.room τ b 0)) e d
