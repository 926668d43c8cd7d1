-- A delivery to one note's slot, and asking it: document 01, "The loading session" and "Refusal numbers". Order of refusals: 5, 6, 7, 8.
use Rattle.std.specs.Prelude.{ℕ, ◌-◌, List, Bool, cond, not, ◌&&◌, leb, ltb, eqb, length}
use Rattle.refusal.specs.Table.{accepted, unlisted, slot_not_in_order, decided, past_length}
use Rattle.hash.specs.State.{fresh}
use Rattle.hash.specs.Update.{update}
use Rattle.hash.specs.Digests.{compare_state}
use Rattle.hash.specs.declared.Hash.{Hash}
use Rattle.rules.specs.Rules.{is_note}
use Rattle.slots.specs.Slots.{none, waiting, opened, shut, slot_in_order, bytes_taken}
use Rattle.slots.specs.declared.Slot.{Slot}
use Rattle.slots.specs.declared.Answer.{Answer}
use Rattle.slots.specs.declared.Step.{Step}

-- "status 0, taken 0"
unfoldable pub bare_refusal : ℕ → Answer
bare_refusal number = record { number = number; status = none; taken = 0 }

-- "status and taken as they stood"
unfoldable pub as_it_stands : ℕ → Slot → Answer
as_it_stands number s = record { number = number; status = s.status; taken = bytes_taken s }

-- demand 3: "there the note is open if the accepted bytes' SM3 digest is the sheet's and shut if not"; "A decided slot holds a fresh state"
unfoldable pub decided_slot : Slot → Hash → Slot
decided_slot s h = record { sample = s.sample; state = fresh; status = cond (compare_state h s.sample.digest).same opened shut }

-- the piece goes into the hash state; "A piece that reaches the length exactly decides the note"
unfoldable pub with_piece : Slot → List ℕ → Slot
with_piece s piece =
    let h = (update s.state piece).state in
    cond (ltb h.total s.sample.length) (record { sample = s.sample; state = h; status = waiting }) (decided_slot s h)

-- a delivery to a listed slot
unfoldable pub deliver_to : Slot → List ℕ → Step
deliver_to s piece =
    cond (slot_in_order s)
    (cond (eqb s.status waiting)
    (cond (leb (length piece) (s.sample.length - s.state.total))
    (record { answer = as_it_stands accepted (with_piece s piece); slot = with_piece s piece })
    (record { answer = as_it_stands past_length s; slot = s }))
    (record { answer = as_it_stands decided s; slot = s }))
    (record { answer = bare_refusal slot_not_in_order; slot = s })

-- asking a listed slot: "status and taken, with refusals 5 and 6 only"
unfoldable pub ask_of : Slot → Answer
ask_of s = cond (slot_in_order s) (as_it_stands accepted s) (bare_refusal slot_not_in_order)

-- not "note 0, above 32, or unlisted"; "A slot is unlisted exactly when its status is 0"
unfoldable pub is_listed : Slot → ℕ → Bool
is_listed s note = is_note note && not (eqb s.status none)

-- an operation on the slot at a note's place
unfoldable pub on_slot : Slot → ℕ → (Slot → Step) → Step
on_slot s note operation = cond (is_listed s note) (operation s) (record { answer = bare_refusal unlisted; slot = s })

unfoldable pub deliver_at : Slot → ℕ → List ℕ → Step
deliver_at s note piece = on_slot s note (λ slot. deliver_to slot piece)

unfoldable pub ask_at : Slot → ℕ → Answer
ask_at s note = cond (is_listed s note) (ask_of s) (bare_refusal unlisted)
