-- Deliveries and asking: document 01, "The loading session".
use Rattle.std.specs.Prelude.{ℕ, List}
use Rattle.slots.specs.Delivery.{deliver_to, on_slot, ask_at}
use Rattle.slots.specs.declared.Slot.{Slot}
use Rattle.slots.specs.declared.Answer.{Answer}
use Rattle.slots.specs.declared.Step.{Step}
use Rattle.session.specs.Sessions.{slot_of}
use Rattle.session.specs.Light.{put_counted}
use Rattle.session.specs.declared.Session.{Session}
use Rattle.session.specs.declared.Delivered.{Delivered}

-- something done to one note's slot: it "looks at its own slot only", and 3/13: "also reads the open count"
unfoldable pub on_note : Session → (note : ℕ) (doing : Slot → Step) → Delivered
on_note s note doing =
    let step = on_slot (slot_of s note) note doing in
    record { answer = step.answer; session = put_counted s note step.slot }

unfoldable pub deliver : Session → (note : ℕ) (piece : List ℕ) → Delivered
deliver s note piece = on_note s note (λ slot. deliver_to slot piece)

unfoldable pub ask : Session → (note : ℕ) → Answer
ask s note = ask_at (slot_of s note) note

-- the operations on one note
pub data Operation : Type 0 where
  delivery : (note : ℕ) (piece : List ℕ) → Operation

-- an operation's own note, what it does to that note's slot, and what it answers and leaves
unfoldable pub note_of : Operation → ℕ
note_of (delivery note piece) = note

unfoldable pub doing : Operation → Slot → Step
doing (delivery note piece) slot = deliver_to slot piece

unfoldable pub perform : Session → Operation → Delivered
perform s operation = on_note s (note_of operation) (doing operation)
