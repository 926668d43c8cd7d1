-- Demand 3: "From an accepted sheet, after any sequence of deliveries, a listed note waits while the bytes accepted for it are fewer than
-- its length, and a waiting note's piece is accepted exactly when it doesn't run past that length; there the note is open if the accepted
-- bytes' SM3 digest is the sheet's and shut if not, and it stays so." (Its last sentence is specs/Reordering.antt.)
use Rattle.std.specs.Prelude.{◌≡◌, ◌↔◌, List, cond, ℕ, ◌+◌, ◌≤◌, ◌<◌, length}
use Rattle.refusal.specs.Table.{accepted, unlisted, decided, past_length}
use Rattle.buffers.specs.Same.{same}
use Rattle.hash.specs.Sm3.{sm3}
use Rattle.hash.specs.State.{fresh}
use Rattle.slots.specs.Slots.{waiting, opened, shut}
use Rattle.session.specs.Sessions.{slot_of}
use Rattle.session.specs.Operations.{Operation, deliver, ask}
use Rattle.session.specs.Promises.{Unlisted}
use Rattle.rules.specs.declared.Record.{Record}
use Rattle.session.specs.declared.Session.{Session}
use Rattle.sheet.specs.Judging.{sheet_of}
use Rattle.lines.specs.declared.Entry.{Entry}
use Rattle.sheet_promises.specs.Grammar.{IsSheet}
use Rattle.sheet_promises.specs.Promises.{Among}
use Rattle.promises.specs.Sequences.{after, accepted_bytes}

-- demand 3: "open if the accepted bytes' SM3 digest is the sheet's and shut if not"
unfoldable pub decided_status : Record → (bytes : List ℕ) → ℕ
decided_status r bytes = cond (same (sm3 bytes) r.digest) opened shut

-- what is promised of a listed note with record r in the session s, `bytes` being the bytes accepted for it
pub record Promised (s : Session) (note : ℕ) (r : Record) (bytes : List ℕ) : Type 0 where
  -- document 01: "Bytes past the length are never part of a sample"
  pub within : length bytes ≤ r.length
  -- "a listed note waits while the bytes accepted for it are fewer than its length"
  pub waits : length bytes < r.length → ask s note ≡ record { number = accepted; status = waiting; taken = length bytes }
  -- "and a waiting note's piece is accepted exactly when it doesn't run past that length";
  pub accepts :
      length bytes < r.length
      → (piece : List ℕ)
      → ((deliver s note piece).answer.number ≡ accepted) ↔ (length bytes + length piece ≤ r.length)
  -- its answer is then what asking gives; a piece that does run past is refused (8), as the table says: "as they stood; nothing of the
  -- piece taken"
  pub answers :
      length bytes < r.length
      → (piece : List ℕ)
      → length bytes + length piece ≤ r.length
      → (deliver s note piece).answer ≡ ask (deliver s note piece).session note
  pub refuses :
      length bytes < r.length
      → (piece : List ℕ)
      → r.length < length bytes + length piece
      → deliver s note piece ≡ record { answer = record { number = past_length; status = waiting; taken = length bytes }; session = s }
  -- "there the note is open if the accepted bytes' SM3 digest is the sheet's and shut if not"
  pub decides : length bytes ≡ r.length → ask s note ≡ record { number = accepted; status = decided_status r bytes; taken = length bytes }
  pub opens : length bytes ≡ r.length → ((ask s note).status ≡ opened) ↔ (sm3 bytes ≡ r.digest)
  pub shuts : length bytes ≡ r.length → ((ask s note).status ≡ shut) ↔ (sm3 bytes ≡ r.digest → ⊥)
  -- document 01: it keeps "its own line's record", whatever was delivered; "A decided slot holds a fresh state"
  pub keeps : (slot_of s note).sample ≡ r
  pub leaves : length bytes ≡ r.length → (slot_of s note).state ≡ fresh
  -- "and it stays so": whatever is delivered later; its own deliveries are refused (7), the empty piece too
  pub stays : length bytes ≡ r.length → (later : List Operation) → ask (after s later) note ≡ ask s note
  pub closed :
      length bytes ≡ r.length
      → (later : List Operation) (piece : List ℕ)
      → deliver (after s later) note piece
      ≡ record { answer = record { number = decided; status = decided_status r bytes; taken = length bytes }; session = after s later }

-- of a note that is not listed: it never is, and every delivery to it is refused (5): "status 0, taken 0; session same"
pub record NotListed (s : Session) (note : ℕ) : Type 0 where
  pub asked : ask s note ≡ record { number = unlisted; status = 0; taken = 0 }
  pub refused :
      (piece : List ℕ)
      → deliver s note piece ≡ record { answer = record { number = unlisted; status = 0; taken = 0 }; session = s }

pub record Demand3 : Type 0 where
  -- "From an accepted sheet, after any sequence of deliveries": of every note that its lines list
  pub listed :
      (text : List ℕ) (es : List Entry)
      → IsSheet text es
      → (e : Entry)
      → Among e es
      → (os : List Operation)
      → Promised (after (sheet_of text).session os) e.note e.sample (accepted_bytes e.note (sheet_of text).session os)
  -- and of every other number
  pub others :
      (text : List ℕ) (es : List Entry)
      → IsSheet text es
      → (note : ℕ)
      → ((e : Entry) → Among e es → e.note ≡ note → ⊥)
      → (os : List Operation)
      → NotListed (after (sheet_of text).session os) note
  -- from any session at all, a note that is not listed never is
  pub never_listed : (s : Session) (note : ℕ) → Unlisted s note → (os : List Operation) → NotListed (after s os) note
