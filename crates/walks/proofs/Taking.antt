-- A lent state takes a piece by a function that has the state by value and answers a number and a state: the borrow is opened and the state is copied out, the function is called, and the borrow is closed at the state that it answered.
--     taking               the code of it
--     ByValue, InPlace     the signatures of the two functions
--     takes                given that the by-value function answers `after`, the code meets every contract that follows from it
-- Assumes nothing.
use mathlib.Core.Path.{◌≡◌, refl}
use Prim.Native.Nat.{ℕ, ◌<◌, ◌^◌}
use mathlib.Core.List.{[], ◌∷◌, List}
use lib.Dec.{T as Holds}
use lib.ListN.{length}
use mir.Syntax.{ty_ref, mut, imm, ty_named, ty_struct, tcons, tnil, Ty, Callee, local, value_local, place, copy, deref, field, rv_opd, Fn, seq, assign, call, return}
use mir.Val.{vstruct, vcons, vnil, has_ty, WT}
use prog.Wp.{Closed}
use prog.Model.{Model}
use prog.Routine.{Env as Routines}
use contract.Monad.{fact}
use contract.Running.{Running}
use denote.RattleType.{writtens}
use denote.Plain.{uint_row_laws}
use denote.Slice.{slice_ty}
use denote.Builtin.{RefMutOf, SliceRefOf}
use denote.Triple.Clauses.{Ended, Clauses, at_exit, closing}
use Rattle.walks.proofs.Words.{Ura, full_share, named, w8, ty_int, Val, vint, vptr, ent, emp, id⊢, Fml, Calls, Loops, WpFn, Logic, FmC, Lfts, Shares, tables, ‵, raw, ◌⊛◌, ◌$◌, ◌∵◌, !, qed, by, move, keep, drop, use1, split, look, store, init, stop, hop, fld, from, load, of_opd, and_then, no_more, assigns, land, returns, enter, alloc1, alloc0, params1, pass1, pass0, free0, whole, sub, look_in, Is, uint_Makes, u8, Bor, MutBor, mut_vals, mut_Tells, plain, slice_val, ShrSlice, shr_slice_vals, shr_slice_Tells, shr_slice_Lawful, shr_slice_copy, owned, Triple, on_entry, triple_of, Stays, stay_ref, stay_none_slice, walk_of, Goes-ref, Goes-none_slice, yes}
use Rattle.walks.proofs.Borrow.{Data, IsData, row_of, mir_of, machine, typed, made, opened, closed, out, into, gone}
use Rattle.walks.proofs.Calls.{arrives, asks}
use Rattle.walks.proofs.Ends.{ends, stands}

-- the MIR type of an answer, and its machine value
abbrev pub answer_ty : (S U : Data) → Ty
answer_ty S U = ty_struct U.type.name (tcons (ty_int w8) (tcons (mir_of S) tnil))

abbrev pub answer : (S : Data) → ℕ → S.type.D → Val
answer S number state = vstruct (vcons (vint w8 number) (vcons (machine S state) vnil))

-- `let before = *h; let after = f(before, piece); *h = after.state; after.number`
abbrev pub taking : (S U : Data) (f : Callee) → Fn
taking S U f = record {
  lifetimes = 2;
  outlives = [];
  ty_params = [];
  givens = 0;
  params = 2;
  locals = local (ty_int w8) value_local ∷ local (ty_ref (named 0) mut (ty_named (S.type.name, S.type.args) (writtens S.type.types))) value_local ∷ local (slice_ty (ty_ref (named 1) imm (ty_int w8))) value_local ∷ local (mir_of S) value_local ∷ local (answer_ty S U) value_local ∷ [];
  body = seq (assign (place 3 []) (rv_opd (copy (place 1 (deref (mir_of S) ∷ []))))) (seq (call f (copy (place 3 []) ∷ copy (place 2 []) ∷ []) (place 4 []))
      (seq (assign (place 1 (deref (mir_of S) ∷ [])) (rv_opd (copy (place 4 (field 1 ∷ []))))) (seq (assign (place 0 []) (rv_opd (copy (place 4 (field 0 ∷ []))))) return)));
}

module _ (S : Data) where
  abbrev pub ByValue : Data → Ended
  ByValue U = record {
    signature = record { lifetimes = 1; outlives = []; params = plain (λ _. row_of S) ∷ SliceRefOf (0 ∷ []) tt (plain (λ _. u8)) (λ _. tt) ∷ []; result = plain (λ _. row_of U) };
    kept = (yes, (yes, tt));
  }

  abbrev pub InPlace : Ended
  InPlace = record {
    signature = record { lifetimes = 2; outlives = []; params = RefMutOf (0 ∷ []) tt (plain (λ _. row_of S)) (λ _. tt) ∷ SliceRefOf (1 ∷ []) tt (plain (λ _. u8)) (λ _. tt) ∷ []; result = plain (λ _. u8) };
    kept = (yes, (yes, tt));
  }

  abbrev stayed : Stays InPlace.signature.params InPlace.kept
  stayed = (stay_ref (0 ∷ []) tt (plain (λ _. row_of S)), (stay_none_slice (1 ∷ []) tt (plain (λ _. u8)) yes, tt))

module _ (S U : Data) where
  -- an answer is a number and a state
  pub record Answers : Type 1 where
    pub number : U.type.D → ℕ
    pub state : U.type.D → S.type.D
    pub tells : (r : U.type.D) (vs : List Val) → Is (row_of U) r vs → vs ≡ answer S (number r) (state r) ∷ []
    pub number_fits : (r : U.type.D) → Is (row_of U) r (answer S (number r) (state r) ∷ []) → number r < 2 ^ 8
    pub state_is : (r : U.type.D) → Is (row_of U) r (answer S (number r) (state r) ∷ []) → IsData S (state r)
    pub typed : (r : U.type.D) → Is (row_of U) r (answer S (number r) (state r) ∷ []) → Holds (has_ty (answer_ty S U) (answer S (number r) (state r))) × WT (answer S (number r) (state r))

module _ (S U : Data) (N : Answers S U) (after : S.type.D → List ℕ → U.type.D) {M : Type 1} {𝓤 : Ura M} (𝓛 : Logic 𝓤) (f : Callee) where
  open 𝓛 use {H}

  abbrev pub answering : Clauses 𝓤 (ByValue S U)
  answering κs a = record { ghost = Unit {0}; requires = λ _. emp 𝓤; ensures = λ _ r _. fact 𝓤 (r ≡ after a.0 a.1.0.now) }

  -- the contract c follows from what `after` answers: its number is the result, and its state the one at exit
  abbrev pub Says : Clauses 𝓤 (InPlace S) → Type 1
  Says c = (κs : Lfts 2) (h : MutBor S.type.D) (s : Bor (List ℕ)) (g : (c κs (h, (s, tt))).ghost) (r : U.type.D) → r ≡ after h.now s.now
      → ent 𝓤 (emp 𝓤) ((c κs (h, (s, tt))).ensures g (N.number r) (at_exit (InPlace S) κs (h, (s, tt)) (N.state r, (tt, tt))))

  module _ (c : Clauses 𝓤 (InPlace S)) (says : Says c) (κs : Lfts 2) (qs : Shares 2) (h : MutBor S.type.D) (s : Bor (List ℕ)) (g : (c κs (h, (s, tt))).ghost) where
    abbrev a : MutBor S.type.D × (Bor (List ℕ) × Unit {0})
    a = (h, (s, tt))

    -- the slice's machine value
    abbrev v : Val
    v = slice_val s.ref_ptr (length s.now)

    abbrev vs : List Val × (List Val × Unit {0})
    vs = (vptr h.ref_ptr.0 h.ref_ptr.1 ∷ [], (v ∷ [], tt))

    abbrev Piece : Fml
    Piece = (ShrSlice (named 1) κs.1.0 u8).own_val s (v ∷ [])

    abbrev y : (walk_of 𝓛 (InPlace S) (stayed S) c).Ghost
    y = ((κs, qs, tt, a, vs), g)

    module _ (C : Calls 𝓤 H) (Λ : Loops 𝓤 H) (fm : FmC 𝓤 H 𝓛.laws C) (known : Triple 𝓤 (C f) (triple_of 𝓛 (ByValue S U).signature (closing 𝓛 (ByValue S U) answering))) where
      walk : Is (ShrSlice (named 1) κs.1.0 u8) s (v ∷ []) → ent 𝓤 (on_entry 𝓛 (InPlace S).signature κs qs a vs) (WpFn 𝓤 H C Λ (taking S U f) (vptr h.ref_ptr.0 h.ref_ptr.1 ∷ v ∷ []) ((walk_of 𝓛 (InPlace S) (stayed S) c).post y))
      walk p =
          qed 𝓛 (raw (on_entry 𝓛 (InPlace S).signature κs qs a vs) ∷ []) ∵ enter ! C Λ (taking S U f) (vptr h.ref_ptr.0 h.ref_ptr.1 ∷ v ∷ []) _ $
          alloc1 ! (λ l₀. alloc1 ! (λ l₁. alloc1 ! (λ l₂. alloc1 ! (λ l₃. alloc1 ! (λ l₄. alloc0 ! $ params1 ! $ pass1 ! (init ! 6 refl (tt, tt)) $ pass1 ! (init ! 4 refl ((shr_slice_Lawful 𝓛 (named 1) κs.1.0 u8).typed s (v ∷ []) p).0) $ pass0 ! $
          move ! (10 ∷ []) $ arrives 𝓛 (InPlace S) κs qs a vs ! $ move ! (2 ∷ 0 ∷ []) $ opened ! tt S (named 0) h $ out ! S full_share h.now (λ is.
          -- [the state; the open borrow; piece's token; piece; _4; …; _3; …; _2; …; _1; …; room for _0; …]
          assigns ! (of_opd ! (load ! (from ! (hop ! (look ! 10 refl) (stop !))) (look ! 0 refl))) (from ! (stop !)) (init ! 6 refl (typed S 𝓛 h.now is)) $
          move ! (3 ∷ []) $ use1 𝓛 (‵ Piece ⊛ ‵ Piece) ((shr_slice_copy 𝓛 (named 1) κs.1.0 u8 (uint_row_laws w8)).twice s (v ∷ [])) $ split ! $ made ! S h.now is $ move ! (5 ∷ 0 ∷ 1 ∷ []) $
          asks 𝓛 (ByValue S U) (κs.1.0, tt) (qs.1.0, tt) (h.now, (s, tt)) (machine S h.now ∷ [], (v ∷ [], tt)) answering tt tt (λ r. answer S (N.number r) (N.state r)) N.tells (λ r. r ≡ after h.now s.now) !
          fm known (id⊢ 𝓤 (emp 𝓤)) (λ r ws. id⊢ 𝓤 _) (and_then ! (load ! (from ! (stop !)) (look ! 6 refl)) (and_then ! (load ! (from ! (stop !)) (look ! 8 refl)) (no_more !))) (λ r e is'. move ! (1 ∷ []) $ drop ! $
          -- [piece's token; piece; the state; the open borrow; room for _4; …; _3; …; _2; …; _1; …; room for _0; …]
          land ! (from ! (stop !)) (init ! 4 refl (N.typed r is')) $
          assigns ! (of_opd ! (load ! (from ! (fld ! refl (stop !))) (look_in ! 4 (sub ! 1 refl (whole !))))) (from ! (hop ! (look ! 10 refl) (stop !))) (store ! 2 refl (typed S 𝓛 (N.state r) (N.state_is r is'))) $
          assigns ! (of_opd ! (load ! (from ! (fld ! refl (stop !))) (look_in ! 4 (sub ! 0 refl (whole !))))) (from ! (stop !)) (init ! 12 refl (tt, record { fits = N.number_fits r is' })) $
          move ! (2 ∷ 3 ∷ []) $ into ! S full_share (N.state r) (N.state_is r is') $ closed ! tt S (named 0) h (N.state r) $
          -- [h; its token; piece's token; piece; _4; …; _3; …; _2; …; _1; …; _0; …]
          returns ! (look ! 12 refl) $ gone ! 12 refl refl $ gone ! 10 refl refl $ gone ! 8 refl refl $ gone ! 6 refl refl $ gone ! 4 refl refl $ free0 ! $
          owned ! u8 (Is u8) (uint_Makes 𝓛 w8) (N.number r) (vint w8 (N.number r) ∷ []) (refl, N.number_fits r is') $ keep ! (2 ∷ 3 ∷ 1 ∷ 4 ∷ 0 ∷ []) $
          by ! (ends 𝓛 (InPlace S) (stayed S) c y (vint w8 (N.number r)) (N.number r) (N.state r, (tt, tt)) (tt, (tt, tt)) (says κs h s g r e)))))))))

  pub takes : (𝓜 : Model 𝓤 H) (𝓡 : Running 𝓤 H 𝓜) (γ : Routines) (k : Callee) (c : Clauses 𝓤 (InPlace S)) → Closed 𝓤 H (tables 𝓤 H 𝓜 𝓡 γ).C (tables 𝓤 H 𝓜 𝓡 γ).Λ k (taking S U f)
      → Triple 𝓤 ((tables 𝓤 H 𝓜 𝓡 γ).C f) (triple_of 𝓛 (ByValue S U).signature (closing 𝓛 (ByValue S U) answering)) → Says c
      → Triple 𝓤 ((tables 𝓤 H 𝓜 𝓡 γ).C k) (triple_of 𝓛 (InPlace S).signature (closing 𝓛 (InPlace S) c))
  takes 𝓜 𝓡 γ k c is known says =
      stands 𝓛 𝓜 𝓡 γ (InPlace S) (stayed S) c k (taking S U f) is
      (Goes-ref 𝓛 2 0 tt (plain (λ _. row_of S)), (Goes-none_slice 𝓛 2 (1 ∷ []) tt (plain (λ _. u8)) yes, tt))
      (λ κs. (mut_vals, (shr_slice_vals, tt))) (λ κs. (mut_Tells (named 0) κs.0 (row_of S), (shr_slice_Tells (named 1) κs.1.0 u8, tt)))
      (λ fm κs qs bounds a g are. walk c says κs qs a.0 a.1.0 g (tables 𝓤 H 𝓜 𝓡 γ).C (tables 𝓤 H 𝓜 𝓡 γ).Λ fm known are.1.0)
