-- The loading session: document 01, "The loading session". "32 slots, one a note". Behind them the two counts of 3/13 (specs/Light.antt).
use Rattle.std.specs.Prelude.{ℕ, ◌-◌, cond, get_or, set, replicate}
use Rattle.rules.specs.Rules.{is_note}
use Rattle.slots.specs.Slots.{empty_slot}
use Rattle.slots.specs.declared.Slot.{Slot}
use Rattle.session.specs.declared.Session.{Session}

-- a session with no note listed
unfoldable pub empty_session : Session
empty_session = record { slots = replicate 32 empty_slot; listed = 0; opened = 0 }

-- the first slot is note 1's. A number that is no note is given the first slot too, where refusal 5 leaves the slot as it was
unfoldable pub slot_index : (note : ℕ) → ℕ
slot_index note = cond (is_note note) (note - 1) 0

unfoldable pub slot_of : Session → (note : ℕ) → Slot
slot_of s note = get_or s.slots (slot_index note) empty_slot

-- the session with another slot for a note, and the same counts
unfoldable pub put_slot : Session → (note : ℕ) → Slot → Session
put_slot s note slot = record { slots = set s.slots (slot_index note) slot; listed = s.listed; opened = s.opened }
