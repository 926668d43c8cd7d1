-- The bytes accepted for a listed note: after any deliveries its slot is the one that they reach.
use mathlib.Core.Path.{◌≡◌, refl, ap, ◌∙◌}
use mathlib.Core.List.{List, [], ◌∷◌, ◌++◌, append-nil, append_assoc}
use mathlib.Core.Bool.{Bool, true, false, cond, ◌&&◌}
use Prim.Native.Nat.{ℕ, ◌+◌, ◌≤◌, ◌<◌}
use lib.Dec.{eqb, ltb, leb}
use lib.ListN.{length, length-append}
use borrow.Author.Tests.{ltb-true, ltb-false, leb-true, leb-false}
use Rattle.refusal.specs.Table.{accepted}
use Rattle.slots.specs.Delivery.{as_it_stands, deliver_to}
use Rattle.session.specs.Operations.{Operation, delivery, note_of, doing, perform}
use Rattle.slots.specs.Delivery.{is_listed, on_slot}
use Rattle.slots.proofs.Listed.{at_listed}
use Rattle.rules.specs.declared.Record.{Record}
use Rattle.slots.specs.declared.Slot.{Slot}
use Rattle.slots.specs.declared.Step.{Step}
use Rattle.session.specs.declared.Session.{Session}
use Rattle.promises.specs.Sequences.{after, piece_of, added_bytes, accepted_bytes}
use Rattle.promises.proofs.LineRecord.{LineRecord}
use Rattle.promises.proofs.OneNote.{view, is_listed_lem}
use Rattle.promises.proofs.Reordering.{own_step, other_step}
use Rattle.promises.proofs.Reached.{reached, takes, runs_past, after_decided, not_none}

-- the piece where the answer is 0, and nothing else
gained : Step → List ℕ → List ℕ
gained step p = cond (eqb step.answer.number accepted) p []

-- what an operation adds: to its own note the piece where the answer is 0, to another nothing
module _ (note : ℕ) (s : Session) (o : Operation) where
  added_own : eqb (note_of o) note ≡ true → added_bytes note s o ≡ cond (eqb (perform s o).answer.number accepted) (piece_of o) []
  unfolding added_bytes
  added_own e = ap (λ (t : Bool). cond (t && eqb (perform s o).answer.number accepted) (piece_of o) []) e

  added_other : eqb (note_of o) note ≡ false → added_bytes note s o ≡ []
  unfolding added_bytes
  added_other e = ap (λ (t : Bool). cond (t && eqb (perform s o).answer.number accepted) (piece_of o) []) e

-- all that is done is a delivery of its piece
is_delivery : (o : Operation) (slot : Slot) → doing o slot ≡ deliver_to slot (piece_of o)
unfolding doing piece_of
is_delivery (delivery note piece) slot = refl

-- a slot is the one that these bytes reach, and they are not past its length
abbrev pub Reaches : Record → List ℕ → Slot → Type 0
Reaches r b slot = (slot ≡ reached r b) × (length b ≤ r.length)

module _ (r : Record) (line : LineRecord r) where
  -- one delivery, by cases
  one_more : (b p : List ℕ) → length b ≤ r.length → Reaches r (b ++ gained (deliver_to (reached r b) p) p) (deliver_to (reached r b) p).slot
  unfolding gained as_it_stands
  one_more b p h = go (ltb (length b) r.length) refl
    where
      while_waiting : (t : Bool) → leb (length b + length p) r.length ≡ t → length b < r.length
          → Reaches r (b ++ gained (deliver_to (reached r b) p) p) (deliver_to (reached r b) p).slot
      while_waiting true f w = let l = leb-true _ _ f in rw (takes r line b p w l, length-append b p) (refl, l)
      while_waiting false f w = rw (runs_past r line b p w (leb-false _ _ f), append-nil b) (refl, h)

      go : (t : Bool) → ltb (length b) r.length ≡ t
          → Reaches r (b ++ gained (deliver_to (reached r b) p) p) (deliver_to (reached r b) p).slot
      go true w = while_waiting _ refl (ltb-true _ _ w)
      go false w = rw (after_decided r line b p (ltb-false _ _ w), append-nil b) (refl, h)

  module _ (note : ℕ) (low : 1 ≤ note) (high : note ≤ 32) where
    pub is_listed_reached : (b : List ℕ) → is_listed (reached r b) note ≡ true
    is_listed_reached b = is_listed_lem (reached r b) note low high (not_none r line b)

    one_operation : (s : Session) (b : List ℕ) (o : Operation) → Reaches r b (view s note)
        → Reaches r (b ++ added_bytes note s o) (view (perform s o).session note)
    unfolding gained
    one_operation s b o h = go (eqb (note_of o) note) refl
      where
        here : on_slot (view s note) note (doing o) ≡ deliver_to (reached r b) (piece_of o)
        here = rw h.0 (at_listed (reached r b) note (doing o) (is_listed_reached b) ∙ is_delivery o (reached r b))

        go : (t : Bool) → eqb (note_of o) note ≡ t → Reaches r (b ++ added_bytes note s o) (view (perform s o).session note)
        go true e = rw (added_own note s o e, (own_step s note o e).0, (own_step s note o e).1, here) (one_more b (piece_of o) h.1)
        go false e = rw (added_other note s o e, other_step s note o e, append-nil b) h

    -- any operations
    pub grows : (s : Session) (b : List ℕ) (os : List Operation) → Reaches r b (view s note)
        → Reaches r (b ++ accepted_bytes note s os) (view (after s os) note)
    unfolding after accepted_bytes
    grows s b [] h = rw (append-nil b) h
    grows s b (o ∷ os) h =
        let s₁ = (perform s o).session in
        rw (← append_assoc b (added_bytes note s o) (accepted_bytes note s₁ os)) (grows s₁ (b ++ added_bytes note s o) os (one_operation s b o h))
