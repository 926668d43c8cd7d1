-- The rank-ready light: 3/13. "Let the session carry how many notes are listed and how many are open, and answer from those two alone".
use Rattle.std.specs.Prelude.{ℕ, ◌+◌, Bool, cond, not, ◌&&◌, ltb, eqb}
use Rattle.slots.specs.Slots.{opened}
use Rattle.slots.specs.declared.Slot.{Slot}
use Rattle.session.specs.Sessions.{slot_of, put_slot}
use Rattle.session.specs.declared.Session.{Session}

-- "yes exactly when they are equal and not zero"
unfoldable pub all_open : (listed open_ones : ℕ) → Bool
all_open listed open_ones = eqb listed open_ones && not (eqb open_ones 0)

unfoldable pub ready : Session → Bool
ready s = all_open s.listed s.opened

-- "opening a note": it was not open, and is
unfoldable pub opens : (before after : ℕ) → Bool
opens before after = not (eqb before opened) && eqb after opened

-- "adds one, save that a stored count of 32 or more stays"
unfoldable pub one_more : ℕ → ℕ
one_more count = cond (ltb count 32) (count + 1) count

-- the open count, by a note's status before and after what was done to it
unfoldable pub open_after : (count before after : ℕ) → ℕ
open_after count before after = cond (opens before after) (one_more count) count

-- the session with another slot for a note, and the open count that goes with it
unfoldable pub put_counted : Session → (note : ℕ) → Slot → Session
put_counted s note slot =
    record {
      slots = (put_slot s note slot).slots;
      listed = s.listed;
      opened = open_after s.opened (slot_of s note).status slot.status;
    }
