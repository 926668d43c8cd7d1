-- What is promised of ANY stored slot. All of it is proved in proofs/Proved.antt.
use Rattle.std.specs.Prelude.{ℕ, ◌+◌, ◌≤◌, ◌<◌, ◌≡◌, ◌↔◌, ◌⊎◌, List, [], ◌∷◌, true, length, replicate}
use Rattle.standard.specs.Standard.{IV}
use Rattle.hash.specs.State.{fresh, in_order}
use Rattle.hash.specs.Update.{update}
use Rattle.hash.specs.Digests.{finish}
use Rattle.rules.specs.Promises.{Obeyed}
use Rattle.rules.specs.declared.Record.{Record}
use Rattle.slots.specs.Slots.{none, waiting, opened, shut, slot_in_order, bytes_taken, empty_slot, waiting_slot}
use Rattle.slots.specs.Delivery.{with_piece}
use Rattle.slots.specs.declared.Slot.{Slot}

-- open or shut
abbrev pub Decided : Slot → Type 0
Decided s = (s.status ≡ opened) ⊎ (s.status ≡ shut)

-- "waiting, its hash state is in order with total below the length; decided, its hash state is fresh"
abbrev pub StateInOrder : Slot → Type 0
StateInOrder s =
    ((s.status ≡ waiting) × (in_order s.state ≡ true) × (s.state.total < s.sample.length)) ⊎ (Decided s × (s.state ≡ fresh))

-- What row 0 leaves of a waiting slot in order: the record; below the length that state; "A piece that reaches the length exactly decides
-- the note", open exactly when final answers the record's digest, and "A decided slot holds a fresh state".
pub record Outcome (before : Slot) (piece : List ℕ) (after : Slot) : Type 0 where
  pub keeps : after.sample ≡ before.sample
  pub waits :
      before.state.total + length piece < before.sample.length
      → after ≡ record { sample = before.sample; state = (update before.state piece).state; status = 1 }
  pub leaves : before.state.total + length piece ≡ before.sample.length → after.state ≡ fresh
  pub opens :
      before.state.total + length piece ≡ before.sample.length
      → (after.status ≡ 2) ↔ (before.sample.digest ≡ (finish (update before.state piece).state).bytes)
  pub shuts :
      before.state.total + length piece ≡ before.sample.length
      → (after.status ≡ 3) ↔ (before.sample.digest ≡ (finish (update before.state piece).state).bytes → ⊥)

-- of anything that puts a piece into a slot: what it leaves where row 0 is given
abbrev pub OutcomeOf : (putting : Slot → List ℕ → Slot) → Type 0
OutcomeOf putting =
    (slot : Slot) (piece : List ℕ) → slot_in_order slot ≡ true → slot.status ≡ waiting
    → slot.state.total + length piece ≤ slot.sample.length
    → Outcome slot piece (putting slot piece)

pub record Promises : Type 0 where
  -- "a status (0 none, 1 waiting, 2 open, 3 shut)"
  pub statuses : (none ∷ waiting ∷ opened ∷ shut ∷ []) ≡ (0 ∷ 1 ∷ 2 ∷ 3 ∷ [])
  -- "the sheet reader gives such a slot record zero and a fresh state"
  pub empty :
      empty_slot
      ≡ record {
        sample = record { length = 0; loop_start = 0; loop_end = 0; digest = replicate 32 0 };
        state = record { words = IV; total = 0; tail = replicate 64 0 };
        status = 0;
      }
  -- "each waiting, with its own line's record and a fresh state"
  pub begins :
      (r : Record)
      → waiting_slot r ≡ record { sample = r; state = record { words = IV; total = 0; tail = replicate 64 0 }; status = 1 }
  -- "bytes taken (the length once decided)"
  pub waiting_taken : (s : Slot) → s.status ≡ waiting → bytes_taken s ≡ s.state.total
  pub decided_taken : (s : Slot) → Decided s → bytes_taken s ≡ s.sample.length
  -- "A listed slot is in order when its record obeys rules 3 and 4, and" its state fits its status
  pub slots_in_order : (s : Slot) → (slot_in_order s ≡ true) ↔ (Obeyed s.sample × StateInOrder s)
  -- what row 0 leaves, in the words of the paper
  pub outcome : OutcomeOf with_piece
