-- One note's slot: document 01, "The loading session".
use Rattle.std.specs.Prelude.{ℕ, Bool, false, cond, ◌&&◌, ◌||◌, ltb, eqb}
use Rattle.hash.specs.State.{fresh, is_fresh, in_order}
use Rattle.rules.specs.Rules.{obeys, zero_record}
use Rattle.rules.specs.declared.Record.{Record}
use Rattle.slots.specs.declared.Slot.{Slot}

-- "a status (0 none, 1 waiting, 2 open, 3 shut)"
abbrev pub none : ℕ
none = 0

abbrev pub waiting : ℕ
waiting = 1

abbrev pub opened : ℕ
opened = 2

abbrev pub shut : ℕ
shut = 3

-- open or shut: a decided note
unfoldable pub is_decided : ℕ → Bool
is_decided status = eqb status opened || eqb status shut

-- "waiting, its hash state is in order with total below the length; decided, its hash state is fresh". "Any other status counts as listed
-- and not in order."
unfoldable pub state_in_order : Slot → Bool
state_in_order s =
    cond (eqb s.status waiting) (in_order s.state && ltb s.state.total s.sample.length)
    (cond (is_decided s.status) (is_fresh s.state) false)

-- "A listed slot is in order when its record obeys rules 3 and 4, and" its state fits its status
unfoldable pub slot_in_order : Slot → Bool
slot_in_order s = obeys s.sample && state_in_order s

-- bytes taken: those in the hash state, "the length once decided"
unfoldable pub bytes_taken : Slot → ℕ
bytes_taken s = cond (eqb s.status waiting) s.state.total s.sample.length

-- "the sheet reader gives such a slot record zero and a fresh state"
unfoldable pub empty_slot : Slot
empty_slot = record { sample = zero_record; state = fresh; status = none }

-- "each waiting, with its own line's record and a fresh state"
unfoldable pub waiting_slot : Record → Slot
waiting_slot r = record { sample = r; state = fresh; status = waiting }
