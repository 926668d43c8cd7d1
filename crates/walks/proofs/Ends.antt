-- How a walk ends, and how it becomes the function's theorem.
--     had          an entry for what the function has of each parameter at exit
--     ends         the tokens, what is had of the parameters, and the result make the end of a walk, at a result and last values that the prover names
--     stands       a walk for every choice of lifetimes and arguments is the theorem
-- Assumes `Logic`; `stands` assumes nothing.
use Prim.Native.Nat.{ℕ}
use mathlib.Core.List.{List, [], ◌∷◌, ◌++◌}
use seplogic.Ra.Ura.{Ura}
use mir.Syntax.{Fn}
use mir.Val.{Val}
use base.Logic.{SProp, ent, sep, emp, id⊢, via, mono_l, mono_r, comm∗, emp∗, fst∗}
use prog.Wp.{WpFn, Closed}
use prog.Model.{Model}
use prog.Routine.{Callee, Env}
use types.Logic.{Logic, sem}
use sound.WpLaws.{FmC, fm_of, WpFn-mono}
use contract.Lifetimes.{Lfts, Shares, AllOutlive}
use contract.Running.{Running, tables, tables_of}
use types.Kit.{Item, ‵, ⋆, pop, ⊢++}
use denote.RattleType.{Denots, Valss, flat}
use denote.Laws.{Are, Ises, Spells, valss, Tellss}
use denote.Signature.{Slot, type_at, types_at}
use denote.Triple.Statement.{Triple}
use denote.Triple.Entry.{Args, Res, alive, on_entry}
use denote.Triple.End.{Kepts, Fins}
use denote.Triple.Spec.{triple_of}
use denote.Triple.Table.{entered}
use denote.Triple.Clauses.{Ended, Clauses, Lasts, at_exit, closing}
use denote.Triple.Walked.{Stays, Fit, has_of, on_exit, walk_of, AllGo, ends_at, walked, walk_Meets}
use Rattle.walks.proofs.Calls.{tokens, toks_in}

module _ {M : Type 1} (𝓤 : Ura M) {n : ℕ} (κs : Lfts n) where
  abbrev pub had : (ss : List (Slot n)) (ks : Kepts ss) → Stays ss ks → (a : Denots (types_at ss κs)) → Fins κs ss ks a → Valss (types_at ss κs) → List (Item 𝓤)
  had [] ks hs a ws vss = []
  had (s ∷ ss) ks hs a ws vss = ‵ (hs.0.has κs a.0 ws.0 vss.0) ∷ had ss ks.1 hs.1 a.1 ws.1 vss.1

  pub had_in : (𝓛 : Logic 𝓤) (ss : List (Slot n)) (ks : Kepts ss) (hs : Stays ss ks) (a : Denots (types_at ss κs)) (ws : Fins κs ss ks a) (vss : Valss (types_at ss κs))
      → ent 𝓤 (⋆ 𝓛 (had ss ks hs a ws vss)) (sem 𝓛 (has_of κs ss ks hs a ws vss))
  had_in 𝓛 [] ks hs a ws vss = id⊢ 𝓤 (emp 𝓤)
  had_in 𝓛 (s ∷ ss) ks hs a ws vss =
      via 𝓤 _ (pop 𝓛 (‵ (hs.0.has κs a.0 ws.0 vss.0)) (had ss ks.1 hs.1 a.1 ws.1 vss.1))
      (mono_r 𝓤 (sem 𝓛 (hs.0.has κs a.0 ws.0 vss.0)) (had_in 𝓛 ss ks.1 hs.1 a.1 ws.1 vss.1))

module _ {M : Type 1} {𝓤 : Ura M} (𝓛 : Logic 𝓤) (T : Ended) (hs : Stays T.signature.params T.kept) (c : Clauses 𝓤 T) (y : (walk_of 𝓛 T hs c).Ghost) where
  abbrev κs : Lfts T.signature.lifetimes
  κs = y.0.0

  module _ (v : Val) (r : Res T.signature κs) (ws : Lasts T κs y.0.3) where
    -- what a walk has at its end, entry by entry
    abbrev pub ending : List (Item 𝓤)
    ending = tokens 𝓤 T.signature.lifetimes κs y.0.1 ++ (had 𝓤 κs T.signature.params T.kept hs y.0.3 ws y.0.4 ++ (‵ ((type_at T.signature.result κs).own_val r (v ∷ [])) ∷ []))

    pub ends : Fit T hs κs y.0.3 ws → ent 𝓤 (emp 𝓤) ((c κs y.0.3).ensures y.1 r (at_exit T κs y.0.3 ws)) → ent 𝓤 (⋆ 𝓛 ending) ((walk_of 𝓛 T hs c).post y v)
    ends fits says =
        let Ts : List (Item 𝓤) = tokens 𝓤 T.signature.lifetimes κs y.0.1 in
        let Hs : List (Item 𝓤) = had 𝓤 κs T.signature.params T.kept hs y.0.3 ws y.0.4 in
        let P : SProp 𝓤 = sem 𝓛 ((type_at T.signature.result κs).own_val r (v ∷ [])) in
        let Out : SProp 𝓤 = on_exit 𝓛 T hs κs y.0.1 y.0.4 v r y.0.3 ws in
        via 𝓤 Out
        (via 𝓤 _ (⊢++ 𝓛 Ts (Hs ++ (‵ ((type_at T.signature.result κs).own_val r (v ∷ [])) ∷ [])))
        (via 𝓤 _ (mono_l 𝓤 (⋆ 𝓛 (Hs ++ (‵ ((type_at T.signature.result κs).own_val r (v ∷ [])) ∷ []))) (toks_in 𝓛 T.signature.lifetimes κs y.0.1))
        (mono_r 𝓤 (alive 𝓛 T.signature κs y.0.1) (via 𝓤 _ (⊢++ 𝓛 Hs (‵ ((type_at T.signature.result κs).own_val r (v ∷ [])) ∷ [])) (mono_l 𝓤 P (had_in 𝓤 κs 𝓛 T.signature.params T.kept hs y.0.3 ws y.0.4))))))
        (via 𝓤 _ (via 𝓤 (sep 𝓤 (emp 𝓤) Out) (emp∗ 𝓤 Out) (via 𝓤 _ (mono_l 𝓤 Out says) (comm∗ 𝓤 ((c κs y.0.3).ensures y.1 r (at_exit T κs y.0.3 ws)) Out)))
        (ends_at 𝓛 T hs c y v r ws fits))

module _ {M : Type 1} {𝓤 : Ura M} (𝓛 : Logic 𝓤) (𝓜 : Model 𝓤 𝓛.H) (𝓡 : Running 𝓤 𝓛.H 𝓜) (γ : Env) (T : Ended) (hs : Stays T.signature.params T.kept) (c : Clauses 𝓤 T) (k : Callee) (e : Fn) where
  open 𝓛 use {H}

  pub stands : Closed 𝓤 H (tables 𝓤 H 𝓜 𝓡 γ).C (tables 𝓤 H 𝓜 𝓡 γ).Λ k e
      → AllGo 𝓛 T.signature.lifetimes T.signature.params T.kept hs
      → (sp : (κs : Lfts T.signature.lifetimes) → Spells (types_at T.signature.params κs)) → ((κs : Lfts T.signature.lifetimes) → Tellss (types_at T.signature.params κs) (Ises (types_at T.signature.params κs)) (sp κs))
      → (FmC 𝓤 H 𝓛.laws (tables 𝓤 H 𝓜 𝓡 γ).C → (κs : Lfts T.signature.lifetimes) (qs : Shares T.signature.lifetimes) (bounds : AllOutlive T.signature.lifetimes T.signature.outlives κs) (a : Args T.signature κs) (g : (c κs a).ghost)
      → Are (types_at T.signature.params κs) (Ises (types_at T.signature.params κs)) a (valss (types_at T.signature.params κs) (sp κs) a)
      → ent 𝓤 (on_entry 𝓛 T.signature κs qs a (valss (types_at T.signature.params κs) (sp κs) a))
      (WpFn 𝓤 H (tables 𝓤 H 𝓜 𝓡 γ).C (tables 𝓤 H 𝓜 𝓡 γ).Λ e (flat (types_at T.signature.params κs) (valss (types_at T.signature.params κs) (sp κs) a))
      ((walk_of 𝓛 T hs c).post ((κs, qs, bounds, a, valss (types_at T.signature.params κs) (sp κs) a), g))))
      → Triple 𝓤 ((tables 𝓤 H 𝓜 𝓡 γ).C k) (triple_of 𝓛 T.signature (closing 𝓛 T c))
  unfolding tables_of
  stands is go sp tl walk =
      entered 𝓤 H (triple_of 𝓛 T.signature (closing 𝓛 T c)) (tables 𝓤 H 𝓜 𝓡 γ).C (tables 𝓤 H 𝓜 𝓡 γ).Λ k e is
      (walk_Meets 𝓛 T hs go c (WpFn 𝓤 H (tables 𝓤 H 𝓜 𝓡 γ).C (tables 𝓤 H 𝓜 𝓡 γ).Λ e) (WpFn-mono 𝓤 H 𝓛.laws (tables_of 𝓤 H 𝓜 (tables 𝓤 H 𝓜 𝓡 γ)) e)
      (walked 𝓛 T hs c (WpFn 𝓤 H (tables 𝓤 H 𝓜 𝓡 γ).C (tables 𝓤 H 𝓜 𝓡 γ).Λ e) sp tl
      (λ κs qs bounds a g are. via 𝓤 _ (fst∗ 𝓤 _ ((c κs a).requires g)) (walk (fm_of 𝓤 H 𝓛.laws (tables_of 𝓤 H 𝓜 (tables 𝓤 H 𝓜 𝓡 γ))) κs qs bounds a g are))))
