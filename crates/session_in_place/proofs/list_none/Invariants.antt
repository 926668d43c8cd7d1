-- `list_none` empties slot after slot. The invariant: so many slots are those of no note. Assumes nothing.
use Rattle.std.proofs.Common.{◌≡◌, length, take, replicate}
use Rattle.slots.specs.Slots.{empty_slot}
use Rattle.session_in_place.proofs.list_none.Given as goal

abbrev pub invariant-loop-slot : goal.invariant-loop-slot
invariant-loop-slot l = (length l.slot-items ≡ 32) × (take l.slot-index l.slot-items ≡ replicate l.slot-index empty_slot)
