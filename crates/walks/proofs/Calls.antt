-- What a function is passed, as entries of a walk's context, and the call of a function.
--     tokens, each     an entry for each lifetime's token, and one for what each parameter owns
--     arrives          what there is on entry, taken apart into them
--     asks             the call: they are handed over, and after the tokens there comes back the answer, at its machine value written out, with what the callee ensures of it
--     asks-last        the same, with what is said of the last values behind each `&mut` before the tokens
-- Assumes `Logic`, and that the table of calls is monotone under a frame.
use mathlib.Core.Path.{◌≡◌, sym, ap, subst}
use Prim.Native.Nat.{ℕ, zero, suc}
use mathlib.Core.List.{List, [], ◌∷◌, ◌++◌}
use seplogic.Ra.Ura.{Ura}
use mir.Syntax.{Callee as Called, Place, Opd as Operand, Body, seq, call}
use mir.Val.{Val}
use base.Logic.{ent, sep, emp, id⊢, via, mono_l, mono_r, comm∗, emp∗}
use base.Fml.{flft}
use prog.Wp.{Env, Calls, Loops}
use types.Logic.{Logic, sem}
use sound.WpLaws.{FmC}
use contract.Monad.{fact}
use contract.Lifetimes.{Lfts, Shares, toks, AllOutlive}
use types.Kit.{Item, Goal, Post, Seq, Step, runs, lands, ‵, raw, ◌⊛◌, some, later, ◌$◌, cut, ⋆, mean, pop, push, ⊢++, ++⊢, use1, await, pick, split, move, drop}
use types.Run.{Opds}
use denote.RattleType.{RattleType, Denots, Valss, flat, owns}
use denote.Laws.{Is, shows}
use denote.Signature.{type_at, types_at}
use denote.Steps.{heard, peeks, only}
use denote.Triple.Statement.{Contract, Triple}
use denote.Triple.Call.{calls_at}
use denote.Triple.Entry.{Args, Vals, Res, alive, on_entry}
use denote.Triple.Spec.{triple_of}
use denote.Triple.Clauses.{Ended, Clauses, Lasts, at_exit, lasts, closing}

module _ {M : Type 1} (𝓤 : Ura M) where
  abbrev pub tokens : (n : ℕ) → Lfts n → Shares n → List (Item 𝓤)
  tokens zero κs qs = []
  tokens (suc n) κs qs = ‵ (flft κs.0 qs.0) ∷ tokens n κs.1 qs.1

  abbrev pub each : (Rs : List RattleType) → Denots Rs → Valss Rs → List (Item 𝓤)
  each [] a vss = []
  each (R ∷ Rs) a vss = ‵ (R.own_val a.0 vss.0) ∷ each Rs a.1 vss.1

module _ {M : Type 1} {𝓤 : Ura M} (𝓛 : Logic 𝓤) where
  open 𝓛 use {A}

  pub toks_in : (n : ℕ) (κs : Lfts n) (qs : Shares n) → ent 𝓤 (⋆ 𝓛 (tokens 𝓤 n κs qs)) (toks 𝓛 n κs qs)
  toks_in zero κs qs = id⊢ 𝓤 (emp 𝓤)
  toks_in (suc n) κs qs = via 𝓤 _ (pop 𝓛 (‵ (flft κs.0 qs.0)) (tokens 𝓤 n κs.1 qs.1)) (mono_r 𝓤 (A.lft κs.0 qs.0) (toks_in n κs.1 qs.1))

  pub toks_out : (n : ℕ) (κs : Lfts n) (qs : Shares n) → ent 𝓤 (toks 𝓛 n κs qs) (⋆ 𝓛 (tokens 𝓤 n κs qs))
  toks_out zero κs qs = id⊢ 𝓤 (emp 𝓤)
  toks_out (suc n) κs qs = via 𝓤 _ (mono_r 𝓤 (A.lft κs.0 qs.0) (toks_out n κs.1 qs.1)) (push 𝓛 (‵ (flft κs.0 qs.0)) (tokens 𝓤 n κs.1 qs.1))

  pub owns_in : (Rs : List RattleType) (a : Denots Rs) (vss : Valss Rs) → ent 𝓤 (⋆ 𝓛 (each 𝓤 Rs a vss)) (sem 𝓛 (owns Rs a vss))
  owns_in [] a vss = id⊢ 𝓤 (emp 𝓤)
  owns_in (R ∷ Rs) a vss = via 𝓤 _ (pop 𝓛 (‵ (R.own_val a.0 vss.0)) (each 𝓤 Rs a.1 vss.1)) (mono_r 𝓤 (sem 𝓛 (R.own_val a.0 vss.0)) (owns_in Rs a.1 vss.1))

  pub owns_out : (Rs : List RattleType) (a : Denots Rs) (vss : Valss Rs) → ent 𝓤 (sem 𝓛 (owns Rs a vss)) (⋆ 𝓛 (each 𝓤 Rs a vss))
  owns_out [] a vss = id⊢ 𝓤 (emp 𝓤)
  owns_out (R ∷ Rs) a vss = via 𝓤 _ (mono_r 𝓤 (sem 𝓛 (R.own_val a.0 vss.0)) (owns_out Rs a.1 vss.1)) (push 𝓛 (‵ (R.own_val a.0 vss.0)) (each 𝓤 Rs a.1 vss.1))

  -- what stands behind the tokens, put before them
  pub front : (n : ℕ) (κs : Lfts n) (qs : Shares n) (i : Item 𝓤) → ent 𝓤 (⋆ 𝓛 (raw (toks 𝓛 n κs qs) ∷ i ∷ [])) (⋆ 𝓛 (i ∷ tokens 𝓤 n κs qs))
  front n κs qs i = via 𝓤 _ (comm∗ 𝓤 (toks 𝓛 n κs qs) (mean 𝓛 i)) (via 𝓤 _ (mono_r 𝓤 (mean 𝓛 i) (toks_out n κs qs)) (push 𝓛 i (tokens 𝓤 n κs qs)))

  module _ (T : Ended) (κs : Lfts T.signature.lifetimes) (qs : Shares T.signature.lifetimes) (a : Args T.signature κs) (vss : Vals T.signature κs) where
    -- what is passed, entry by entry
    abbrev pub passing : List (Item 𝓤)
    passing = tokens 𝓤 T.signature.lifetimes κs qs ++ each 𝓤 (types_at T.signature.params κs) a vss

    pub entry_in : ent 𝓤 (⋆ 𝓛 passing) (on_entry 𝓛 T.signature κs qs a vss)
    entry_in =
        let Δ : List (Item 𝓤) = tokens 𝓤 T.signature.lifetimes κs qs in
        let Δ' : List (Item 𝓤) = each 𝓤 (types_at T.signature.params κs) a vss in
        via 𝓤 _ (⊢++ 𝓛 Δ Δ') (via 𝓤 _ (mono_l 𝓤 (⋆ 𝓛 Δ') (toks_in T.signature.lifetimes κs qs)) (mono_r 𝓤 (alive 𝓛 T.signature κs qs) (owns_in (types_at T.signature.params κs) a vss)))

    pub entry_out : ent 𝓤 (on_entry 𝓛 T.signature κs qs a vss) (⋆ 𝓛 passing)
    entry_out =
        let Δ : List (Item 𝓤) = tokens 𝓤 T.signature.lifetimes κs qs in
        let Δ' : List (Item 𝓤) = each 𝓤 (types_at T.signature.params κs) a vss in
        via 𝓤 _ (mono_l 𝓤 (sem 𝓛 (owns (types_at T.signature.params κs) a vss)) (toks_out T.signature.lifetimes κs qs)) (via 𝓤 _ (mono_r 𝓤 (⋆ 𝓛 Δ) (owns_out (types_at T.signature.params κs) a vss)) (++⊢ 𝓛 Δ Δ'))

module _ {M : Type 1} {𝓤 : Ura M} (𝓛 : Logic 𝓤) (T : Ended) (κs : Lfts T.signature.lifetimes) (qs : Shares T.signature.lifetimes) (a : Args T.signature κs) (vss : Vals T.signature κs) where
  open 𝓛 use {H}

  pub arrives : {K : Type 0} {Γ : List (Item 𝓤)} {G : Goal 𝓤 H} → K → Step K 𝓛 (passing 𝓛 T κs qs a vss ++ Γ) G (raw (on_entry 𝓛 T.signature κs qs a vss) ∷ Γ) G
  arrives {Γ = Γ} t = cut (raw (on_entry 𝓛 T.signature κs qs a vss) ∷ []) (passing 𝓛 T κs qs a vss) Γ (entry_out 𝓛 T κs qs a vss)

  module _ (c : Clauses 𝓤 T) (bounds : AllOutlive T.signature.lifetimes T.signature.outlives κs) (g : (c κs a).ghost)
      (val : Res T.signature κs → Val) (tells : (r : Res T.signature κs) (vs : List Val) → Is (type_at T.signature.result κs) r vs → vs ≡ val r ∷ []) where
    abbrev pub Callee : Contract 𝓤
    Callee = triple_of 𝓛 T.signature (closing 𝓛 T c)

    abbrev pub to : Callee.Ghost
    to = ((κs, qs, bounds, a, vss), g)

    asked : ent 𝓤 (emp 𝓤) ((c κs a).requires g) → ent 𝓤 (⋆ 𝓛 (passing 𝓛 T κs qs a vss)) (Callee.pre to)
    asked h =
        via 𝓤 (sep 𝓤 (emp 𝓤) (on_entry 𝓛 T.signature κs qs a vss)) (via 𝓤 _ (entry_in 𝓛 T κs qs a vss) (emp∗ 𝓤 _))
        (via 𝓤 _ (mono_l 𝓤 (on_entry 𝓛 T.signature κs qs a vss) h) (comm∗ 𝓤 ((c κs a).requires g) (on_entry 𝓛 T.signature κs qs a vss)))

    module _ {K : Type 0} {Γ : List (Item 𝓤)} {E : Env 𝓤 H} {C : Calls 𝓤 H} {Λ : Loops 𝓤 H} {q : Post 𝓤 H} {f : Called} {xs : List Operand} {d : Place} {rest : Body} where
      pub asks_last : (Q : Res T.signature κs → Lasts T κs a → Type 0) → K → FmC 𝓤 H 𝓛.laws C → Triple 𝓤 (C f) Callee → ent 𝓤 (emp 𝓤) ((c κs a).requires g)
          → ((r : Res T.signature κs) (ws : Lasts T κs a) → ent 𝓤 ((c κs a).ensures g r (at_exit T κs a ws)) (fact 𝓤 (Q r ws)))
          → Opds K 𝓛 (raw (Callee.pre to) ∷ Γ) E xs (flat (types_at T.signature.params κs) vss)
          → ((r : Res T.signature κs) (ws : Lasts T κs a) → Q r ws → Is (type_at T.signature.result κs) r (val r ∷ [])
          → Seq K 𝓛 (‵ (lasts T κs a ws) ∷ (tokens 𝓤 T.signature.lifetimes κs qs ++ (‵ ((type_at T.signature.result κs).own_val r (val r ∷ [])) ∷ Γ))) (lands C Λ E d (val r) rest q))
          → Seq K 𝓛 (passing 𝓛 T κs qs a vss ++ Γ) (runs C Λ E (seq (call f xs d) rest) q)
      asks_last Q t fm known needs ensures os k =
          let R : RattleType = type_at T.signature.result κs in
          let Ts : List (Item 𝓤) = tokens 𝓤 T.signature.lifetimes κs qs in
          let Live : Item 𝓤 = raw (alive 𝓛 T.signature κs qs) in
          cut (passing 𝓛 T κs qs a vss) (raw (Callee.pre to) ∷ []) Γ (asked needs) $
          calls_at t fm Callee known to os (λ u.
          use1 𝓛 (later (some (λ (r : R.Denot). (Live ⊛ ‵ (R.own_val r (u ∷ []))) ⊛ some (λ (ws : Lasts T κs a). ‵ (lasts T κs a ws) ⊛ raw ((c κs a).ensures g r (at_exit T κs a ws)))))) (id⊢ 𝓤 _) $ await t tt $ pick t (λ r.
          split t $ move t (1 ∷ []) $ pick t (λ ws. split t $ move t (1 ∷ []) $ use1 𝓛 (raw (fact 𝓤 (Q r ws))) (ensures r ws) $ heard t (Q r ws) (λ e. move t (1 ∷ []) $ split t $
          move t (1 ∷ []) $ peeks t R (Is R) (shows 𝓛 R) r (u ∷ []) (λ is. move t (1 ∷ 2 ∷ []) $
          cut (Live ∷ ‵ (lasts T κs a ws) ∷ []) (‵ (lasts T κs a ws) ∷ Ts) (‵ (R.own_val r (u ∷ [])) ∷ Γ) (front 𝓛 T.signature.lifetimes κs qs (‵ (lasts T κs a ws))) $
          subst (λ (w : Val). Seq K 𝓛 (‵ (lasts T κs a ws) ∷ (Ts ++ (‵ (R.own_val r (w ∷ [])) ∷ Γ))) (lands C Λ E d w rest q)) (sym (ap only (tells r (u ∷ []) is))) (k r ws e (subst (λ (vs : List Val). Is R r vs) (tells r (u ∷ []) is) is)))))))

    module _ (Q : Res T.signature κs → Type 0) {K : Type 0} {Γ : List (Item 𝓤)} {E : Env 𝓤 H} {C : Calls 𝓤 H} {Λ : Loops 𝓤 H} {q : Post 𝓤 H} {f : Called} {xs : List Operand} {d : Place} {rest : Body} where
      pub asks : K → FmC 𝓤 H 𝓛.laws C → Triple 𝓤 (C f) Callee → ent 𝓤 (emp 𝓤) ((c κs a).requires g)
          → ((r : Res T.signature κs) (ws : Lasts T κs a) → ent 𝓤 ((c κs a).ensures g r (at_exit T κs a ws)) (fact 𝓤 (Q r)))
          → Opds K 𝓛 (raw (Callee.pre to) ∷ Γ) E xs (flat (types_at T.signature.params κs) vss)
          → ((r : Res T.signature κs) → Q r → Is (type_at T.signature.result κs) r (val r ∷ [])
          → Seq K 𝓛 (tokens 𝓤 T.signature.lifetimes κs qs ++ (‵ ((type_at T.signature.result κs).own_val r (val r ∷ [])) ∷ Γ)) (lands C Λ E d (val r) rest q))
          → Seq K 𝓛 (passing 𝓛 T κs qs a vss ++ Γ) (runs C Λ E (seq (call f xs d) rest) q)
      asks t fm known needs ensures os k = asks_last (λ r _. Q r) t fm known needs ensures os (λ r ws e is. drop t $ k r e is)
