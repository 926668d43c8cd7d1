-- What a note's operations are answered is a matter of its own slot and its own operations; and operations on different notes may change places.
use mathlib.Core.Path.{◌≡◌, refl, sym, ap, ◌∙◌}
use mathlib.Core.List.{List, [], ◌∷◌}
use mathlib.Core.Bool.{Bool, true, false, cond}
use Prim.Native.Nat.{ℕ}
use native.Mathlib.Omega.{arith}
use lib.Dec.{eqb}
use lib.ListN.{length, get_or, drop}
use borrow.Author.Tests.{eq-eqb, eqb-true, eqb-false}
use Rattle.slots.specs.Delivery.{on_slot}
use Rattle.slots.specs.declared.Slot.{Slot}
use Rattle.slots.specs.declared.Answer.{Answer}
use Rattle.session.specs.Sessions.{slot_of}
use Rattle.session.specs.Operations.{Operation, note_of, doing, perform}
use Rattle.session.specs.declared.Session.{Session}
use Rattle.session.proofs.Proved.{proved as session}
use Rattle.sheet.specs.Judging.{sheet_of}
use Rattle.promises.specs.Sequences.{after, own_operations, own_answers}
use Rattle.promises.specs.Reordering.{Reordered, Reordering}
use Rattle.promises.proofs.OneNote.{view, own, other}

-- a note's slot after its own operations, and their answers
slot_after : ℕ → Slot → List Operation → Slot
slot_after note slot [] = slot
slot_after note slot (o ∷ os) = slot_after note (on_slot slot note (doing o)).slot os

slot_answers : ℕ → Slot → List Operation → List Answer
slot_answers note slot [] = []
slot_answers note slot (o ∷ os) = (on_slot slot note (doing o)).answer ∷ slot_answers note (on_slot slot note (doing o)).slot os

-- one operation, on the note or on another
module _ (s : Session) (note : ℕ) (o : Operation) where
  pub own_step : eqb (note_of o) note ≡ true
      → ((perform s o).answer ≡ (on_slot (view s note) note (doing o)).answer) × (view (perform s o).session note ≡ (on_slot (view s note) note (doing o)).slot)
  unfolding perform
  own_step h = rw (eqb-true (note_of o) note h) (own s note (doing o))

  pub other_step : eqb (note_of o) note ≡ false → view (perform s o).session note ≡ view s note
  unfolding perform
  other_step h = other s (note_of o) _ note (λ e. eqb-false _ _ h (sym e))

-- a list of them
abbrev ByOwn : ℕ → Session → List Operation → Type 0
ByOwn note s os =
    (own_answers note s os ≡ slot_answers note (view s note) (own_operations note os))
    × (view (after s os) note ≡ slot_after note (view s note) (own_operations note os))

by_own : (note : ℕ) (s : Session) (os : List Operation) → ByOwn note s os
unfolding own_answers slot_answers own_operations after slot_after
by_own note s [] = (refl, refl)
by_own note s (o ∷ os) = go (eqb (note_of o) note) refl (by_own note (perform s o).session os)
  where
    go : (b : Bool) → eqb (note_of o) note ≡ b → ByOwn note (perform s o).session os → ByOwn note s (o ∷ os)
    go true h ih = (
      rw (h, (own_step s note o h).0, ← (own_step s note o h).1) (ap (λ (l : List Answer). (on_slot (view s note) note (doing o)).answer ∷ l) ih.0),
      rw h (ih.1 ∙ ap (λ (v : Slot). slot_after note v (own_operations note os)) (own_step s note o h).1),
    )
    go false h ih = rw (h, ← other_step s note o h) ih

-- two operations on different notes may change places
swapped : (s : Session) (o p : Operation) → eqb (note_of p) (note_of o) ≡ false → (perform (perform s p).session o).session ≡ (perform (perform s o).session p).session
unfolding perform
swapped s o p differ = (session.apart s (note_of p) (note_of o) (doing p) (doing o) (eqb-false _ _ differ)).sessions

-- the first of its note's operations in a list may be brought to the front
record Pulled (o : Operation) (ops : List Operation) : Type 0 where
  left : List Operation
  ends : (s : Session) → after s ops ≡ after s (o ∷ left)
  owns : (note : ℕ) → own_operations note ops ≡ own_operations note (o ∷ left)

-- of a note's own operations, where the first two are of different notes
owns_swapped : (o p : Operation) (note : ℕ) (l : List Operation) → eqb (note_of p) (note_of o) ≡ false
    → own_operations note (p ∷ o ∷ l) ≡ own_operations note (o ∷ p ∷ l)
unfolding own_operations
owns_swapped o p note l differ = go (eqb (note_of o) note) (eqb (note_of p) note) refl refl
  where
    go : (a b : Bool) → eqb (note_of o) note ≡ a → eqb (note_of p) note ≡ b → own_operations note (p ∷ o ∷ l) ≡ own_operations note (o ∷ p ∷ l)
    go true true e f = absurd (eqb-false (note_of p) (note_of o) differ (eqb-true (note_of p) note f ∙ sym (eqb-true (note_of o) note e)))
    go true false e f = rw (e, f)
    go false true e f = rw (e, f)
    go false false e f = rw (e, f)

first_pulled : (o p : Operation) (more rest ops : List Operation) → p ∷ more ≡ o ∷ rest → Pulled o (p ∷ ops)
first_pulled o p more rest ops e =
    let it : p ≡ o = ap (λ (l : List Operation). get_or l 0 o) e in
    record { left = ops; ends = λ s. rw it; owns = λ note. rw it }

later_pulled : (o p : Operation) (ops : List Operation) → eqb (note_of p) (note_of o) ≡ false → Pulled o ops → Pulled o (p ∷ ops)
unfolding own_operations after
later_pulled o p ops differ later =
    record {
      left = p ∷ later.left;
      ends = λ s. later.ends (perform s p).session ∙ ap (λ (t : Session). after t later.left) (swapped s o p differ);
      owns = λ note.
          ap (λ (l : List Operation). cond (eqb (note_of p) note) (p ∷ l) l) (later.owns note) ∙ owns_swapped o p note later.left differ;
    }

pulled : (o : Operation) (more ops : List Operation) → own_operations (note_of o) ops ≡ o ∷ more → Pulled o ops
unfolding own_operations
pulled o more [] e = absurd (omega (arith, ap length e))
pulled o more (p ∷ ops) e = go (eqb (note_of p) (note_of o)) refl (pulled o more ops)
  where
    go : (b : Bool) → eqb (note_of p) (note_of o) ≡ b → (own_operations (note_of o) ops ≡ o ∷ more → Pulled o ops) → Pulled o (p ∷ ops)
    go true f further = first_pulled o p (own_operations (note_of o) ops) more ops (rw f at e)
    go false f further = later_pulled o p ops f (further (rw f at e))

-- so the lists may be gone through together
owns_behind : (o : Operation) (one other : List Operation) → Reordered (o ∷ one) (o ∷ other) → Reordered one other
unfolding own_operations
owns_behind o one other same note = go (eqb (note_of o) note) refl
  where
    go : (b : Bool) → eqb (note_of o) note ≡ b → own_operations note one ≡ own_operations note other
    go true e = ap (λ (l : List Operation). drop 1 l) (rw e at (same note))
    go false e = rw e at (same note)

ends_same : (s : Session) (one other : List Operation) → Reordered one other → after s one ≡ after s other
unfolding own_operations after
ends_same s [] [] same = refl
ends_same s [] (p ∷ other) same = absurd (omega (arith, ap length (rw (eq-eqb (note_of p) (note_of p) refl) at (same (note_of p)))))
ends_same s (o ∷ one) other same =
    let front = pulled o (own_operations (note_of o) one) other (sym (same (note_of o)) ∙ rw (eq-eqb (note_of o) (note_of o) refl)) in
    ends_same (perform s o).session one front.left (owns_behind o one front.left (λ note. same note ∙ front.owns note))
    ∙ sym (front.ends s)

answers_same : (s : Session) (one other : List Operation) → Reordered one other → (note : ℕ) → own_answers note s one ≡ own_answers note s other
answers_same s one other same note = (by_own note s one).0 ∙ rw (same note) (sym (by_own note s other).0)

pub reordering : Reordering
reordering =
    record {
      from_sheet = λ text es one other sheet same. let s = (sheet_of text).session in (answers_same s one other same, ends_same s one other same);
      from_any = λ s one other same. (answers_same s one other same, λ note low high. ap (λ (t : Session). slot_of t note) (ends_same s one other same));
      from_any_ends = ends_same;
    }
