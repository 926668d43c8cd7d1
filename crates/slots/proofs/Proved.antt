-- Every promise of the crate, proved. Assumes nothing.
use mathlib.Core.Path.{◌≡◌, refl}
use lib.ListN.{replicate}
use Rattle.standard.specs.Standard.{IV}
use Rattle.hash.specs.State.{fresh}
use Rattle.rules.specs.Rules.{zero_record}
use Rattle.rules.specs.declared.Record.{Record}
use Rattle.slots.specs.Slots.{empty_slot, waiting_slot}
use Rattle.slots.specs.Promises.{Promises}
use Rattle.slots.proofs.Slots.{slot_in_order_is, taken_waiting, taken_decided}
use Rattle.slots.proofs.Pieces.{outcome_is}

empty_is :
    empty_slot
    ≡ record {
      sample = record { length = 0; loop_start = 0; loop_end = 0; digest = replicate 32 0 };
      state = record { words = IV; total = 0; tail = replicate 64 0 };
      status = 0;
    }
unfolding empty_slot zero_record fresh
empty_is = refl

begins_is : (r : Record) → waiting_slot r ≡ record { sample = r; state = record { words = IV; total = 0; tail = replicate 64 0 }; status = 1 }
unfolding waiting_slot fresh
begins_is r = refl

pub proved : Promises
proved =
    record {
      statuses = refl;
      empty = empty_is;
      begins = begins_is;
      waiting_taken = taken_waiting;
      decided_taken = taken_decided;
      slots_in_order = slot_in_order_is;
      outcome = λ slot piece o w. outcome_is slot o w piece;
    }
