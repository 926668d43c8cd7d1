-- The programs that document 01 names under "These must be rejected", and the rule for loops that 2/13 took away, as definitions.
use Rattle.std.specs.Prelude.{ℕ, ◌+◌, ◌/◌, ◌≡◌, List, Bool, true, cond, ◌&&◌, leb, ltb, eqb, length}
use Rattle.refusal.specs.Table.{accepted}
use Rattle.hash.specs.Update.{update}
use Rattle.hash.specs.declared.Hash.{Hash}
use Rattle.hash.specs.declared.Updated.{Updated}
use Rattle.hash.specs.declared.Digest.{Digest}
use Rattle.slots.specs.Slots.{slot_in_order}
use Rattle.slots.specs.declared.Slot.{Slot}
use Rattle.slots.specs.declared.Answer.{Answer}
use Rattle.session.specs.Operations.{deliver}
use Rattle.session.specs.declared.Session.{Session}
use Rattle.session.specs.declared.Delivered.{Delivered}
use Rattle.sheet.specs.declared.Sheet.{Sheet}

-- "a loader that refuses everything": every sheet, and every delivery
abbrev pub RefusesSheets : (reading : List ℕ → Sheet) → Type 0
RefusesSheets reading = (text : List ℕ) → (reading text).verdict.number ≡ accepted → ⊥

abbrev pub RefusesPieces : (delivering : Session → (note : ℕ) (piece : List ℕ) → Delivered) → Type 0
RefusesPieces delivering = (s : Session) (note : ℕ) (piece : List ℕ) → (delivering s note piece).answer.number ≡ accepted → ⊥

-- "a digest that is constant": whichever
unfoldable pub constant : Digest → Hash → Digest
constant d h = d

-- "or a note that is always shut": a waiting one in order, whatever the bytes are that reach its length
abbrev pub AlwaysShut : (putting : Slot → List ℕ → Slot) → Type 0
AlwaysShut putting =
    (slot : Slot) (piece : List ℕ) → slot_in_order slot ≡ true → slot.status ≡ 1
    → slot.state.total + length piece ≡ slot.sample.length
    → (putting slot piece).status ≡ 3

-- "an update that does nothing"
unfoldable pub does_nothing : Hash → (piece : List ℕ) → Updated
does_nothing h piece = record { number = accepted; state = h }

-- "or one that keeps the first piece and ignores the rest"
unfoldable pub first_piece_only : Hash → (piece : List ℕ) → Updated
first_piece_only h piece = cond (eqb h.total 0) (update h piece) (record { number = accepted; state = h })

-- "a taken count that is invented": something else made of the right one
unfoldable pub invents : (counting : ℕ → ℕ) → Session → (note : ℕ) (piece : List ℕ) → Delivered
invents counting s note piece =
    let d = deliver s note piece in
    let answer : Answer = record { number = d.answer.number; status = d.answer.status; taken = counting d.answer.taken } in
    record { answer = answer; session = d.session }

-- "Document 01 treats it as the frame after": start < end <= length/2
unfoldable pub old_loop_rule : (bytes start end : ℕ) → Bool
old_loop_rule bytes start end = ltb start end && leb end (bytes / 2)
