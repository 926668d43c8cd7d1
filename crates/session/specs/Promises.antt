-- What is promised from ANY stored session. All of it is proved in proofs/Proved.antt.
use Rattle.std.specs.Prelude.{ℕ, ◌+◌, ◌-◌, ◌≤◌, ◌<◌, ◌≡◌, ◌↔◌, ◌⊎◌, List, [], true, false, length, get_or}
use Rattle.refusal.specs.Table.{accepted, unlisted, slot_not_in_order, decided, past_length}
use Rattle.slots.specs.Slots.{slot_in_order, empty_slot}
use Rattle.slots.specs.Delivery.{with_piece, deliver_to, on_slot, deliver_at, ask_at}
use Rattle.slots.specs.Promises.{Decided}
use Rattle.slots.specs.declared.Slot.{Slot}
use Rattle.slots.specs.declared.Answer.{Answer}
use Rattle.slots.specs.declared.Step.{Step}
use Rattle.session.specs.Sessions.{empty_session, slot_index, slot_of, put_slot}
use Rattle.session.specs.Light.{all_open, ready, open_after}
use Rattle.session.specs.Operations.{on_note, deliver, ask, delivery, note_of, perform}
use Rattle.session.specs.declared.Session.{Session}
use Rattle.session.specs.declared.Delivered.{Delivered}

-- "note 0, above 32, or unlisted"; "A slot is unlisted exactly when its status is 0". And the others
abbrev pub Unlisted : (s : Session) (note : ℕ) → Type 0
Unlisted s note = (note ≡ 0) ⊎ (32 < note) ⊎ ((slot_of s note).status ≡ 0)

abbrev pub Listed : (s : Session) (note : ℕ) → Type 0
Listed s note = (1 ≤ note) × (note ≤ 32) × ((slot_of s note).status ≡ 0 → ⊥)

-- a listed slot in order that waits, and one that is decided
pub record Waits (s : Session) (note : ℕ) : Type 0 where
  pub listed : Listed s note
  pub in_order : slot_in_order (slot_of s note) ≡ true
  pub waiting : (slot_of s note).status ≡ 1

pub record IsDecided (s : Session) (note : ℕ) : Type 0 where
  pub listed : Listed s note
  pub in_order : slot_in_order (slot_of s note) ≡ true
  pub decided : Decided (slot_of s note)

-- The rows of the table for a delivery, in its order: when a number is given; what is returned and left.
pub data Row (s : Session) (note : ℕ) (piece : List ℕ) : Delivered → Type 0 where
  -- 5: "note 0, above 32, or unlisted"; "status 0, taken 0; session same"
  row5 : Unlisted s note → Row s note piece (record { answer = record { number = unlisted; status = 0; taken = 0 }; session = s })
  -- 6: "slot not in order"; "status 0, taken 0; session same"
  row6 :
      Listed s note → slot_in_order (slot_of s note) ≡ false
      → Row s note piece (record { answer = record { number = slot_not_in_order; status = 0; taken = 0 }; session = s })
  -- 7: "delivery to a decided note, empty piece too"; "status and taken as they stood; session same"
  row7 :
      IsDecided s note
      → Row s note piece
      (record { answer = record { number = decided; status = (slot_of s note).status; taken = (slot_of s note).sample.length }; session = s })
  -- 8: "taken + piece exceeds length"; "as they stood; nothing of the piece taken"
  row8 :
      Waits s note → (slot_of s note).sample.length < (slot_of s note).state.total + length piece
      → Row s note piece (record { answer = record { number = past_length; status = 1; taken = (slot_of s note).state.total }; session = s })
  -- 0: "an accepted call": the piece is taken, the slot answers as it then stands, and the open count goes by its status
  row0 :
      Waits s note → (slot_of s note).state.total + length piece ≤ (slot_of s note).sample.length
      → Row s note piece
      (record {
        answer = record {
          number = accepted;
          status = (with_piece (slot_of s note) piece).status;
          taken = (slot_of s note).state.total + length piece;
        };
        session = record {
          slots = (put_slot s note (with_piece (slot_of s note) piece)).slots;
          listed = s.listed;
          opened = open_after s.opened 1 (with_piece (slot_of s note) piece).status;
        };
      })

-- Those for asking, "with refusals 5 and 6 only".
pub data AskRow (s : Session) (note : ℕ) : Answer → Type 0 where
  ask5 : Unlisted s note → AskRow s note (record { number = unlisted; status = 0; taken = 0 })
  ask6 : Listed s note → slot_in_order (slot_of s note) ≡ false → AskRow s note (record { number = slot_not_in_order; status = 0; taken = 0 })
  ask_waiting : Waits s note → AskRow s note (record { number = accepted; status = 1; taken = (slot_of s note).state.total })
  ask_decided :
      IsDecided s note → AskRow s note (record { number = accepted; status = (slot_of s note).status; taken = (slot_of s note).sample.length })

-- 3/13: a count, by a note's status before and after. "opening a note adds one, save that a stored count of 32 or more stays"
pub record OpenCount (count before after then : ℕ) : Type 0 where
  pub opening : (before ≡ 2 → ⊥) → after ≡ 2 → count < 32 → then ≡ count + 1
  pub full : 32 ≤ count → then ≡ count
  -- nothing else touches it: not a note that was open already, and not one that is not open now
  pub open_already : before ≡ 2 → then ≡ count
  pub not_opened : (after ≡ 2 → ⊥) → then ≡ count

-- a delivery that opens its note: it is accepted, and answers "open"
abbrev pub Opening : (s : Session) (note : ℕ) (piece : List ℕ) → Type 0
Opening s note piece = ((deliver s note piece).answer.number ≡ accepted) × ((deliver s note piece).answer.status ≡ 2)

-- 3/13, from ANY stored session: what a delivery does to both counts
pub record Counts (s : Session) (note : ℕ) (piece : List ℕ) : Type 0 where
  pub listed : (deliver s note piece).session.listed ≡ s.listed
  pub opening : Opening s note piece → s.opened < 32 → (deliver s note piece).session.opened ≡ s.opened + 1
  pub full : 32 ≤ s.opened → (deliver s note piece).session.opened ≡ s.opened
  pub others : (Opening s note piece → ⊥) → (deliver s note piece).session.opened ≡ s.opened

-- two operations on different notes, in either order: the same answers, and the same session at the end
pub record Apart (s : Session) (m n : ℕ) (f g : Slot → Step) : Type 0 where
  pub answers : (on_note (on_note s m f).session n g).answer ≡ (on_note s n g).answer
  pub sessions : (on_note (on_note s m f).session n g).session ≡ (on_note (on_note s n g).session m f).session

-- a piece is accepted exactly when its note waits and it does not run past the length: of any delivery
abbrev pub TakesOf : (delivering : Session → (note : ℕ) (piece : List ℕ) → Delivered) → Type 0
TakesOf delivering =
    (s : Session) (note : ℕ) (piece : List ℕ)
    → ((delivering s note piece).answer.number ≡ accepted)
    ↔ (Waits s note × ((slot_of s note).state.total + length piece ≤ (slot_of s note).sample.length))

-- bytes taken are those taken before and the piece, decided or not: of any delivery
abbrev pub CountedOf : (delivering : Session → (note : ℕ) (piece : List ℕ) → Delivered) → Type 0
CountedOf delivering =
    (s : Session) (note : ℕ) (piece : List ℕ) → (delivering s note piece).answer.number ≡ accepted
    → (delivering s note piece).answer.taken ≡ (slot_of s note).state.total + length piece

pub record Promises : Type 0 where
  -- "32 slots, one a note": the first is note 1's; a number that is no note has the first slot too, where nothing is done
  pub places : (s : Session) (note : ℕ) → 1 ≤ note → note ≤ 32 → slot_of s note ≡ get_or s.slots (note - 1) empty_slot
  pub no_place : (s : Session) (note : ℕ) → (note ≡ 0) ⊎ (32 < note) → slot_of s note ≡ get_or s.slots 0 empty_slot
  -- and so counts the index
  pub index : (note : ℕ) → 1 ≤ note → note ≤ 32 → slot_index note ≡ note - 1
  pub no_index : (note : ℕ) → (note ≡ 0) ⊎ (32 < note) → slot_index note ≡ 0
  -- a slot that is put is the note's own, every other stays, and what is put back changes nothing
  pub put_own : (s : Session) (note : ℕ) (slot : Slot) → length s.slots ≡ 32 → slot_of (put_slot s note slot) note ≡ slot
  pub put_other :
      (s : Session) (m n : ℕ) (slot : Slot) → (slot_index n ≡ slot_index m → ⊥) → slot_of (put_slot s m slot) n ≡ slot_of s n
  pub put_back : (s : Session) (note : ℕ) → put_slot s note (slot_of s note) ≡ s
  -- and putting it touches no count
  pub put_counts :
      (s : Session) (note : ℕ) (slot : Slot)
      → ((put_slot s note slot).listed ≡ s.listed) × ((put_slot s note slot).opened ≡ s.opened)
  -- "session with no note listed": 32 slots, no number is listed, and both counts are 0
  pub empty_counts : (empty_session.listed ≡ 0) × (empty_session.opened ≡ 0)
  pub empty_slots : length empty_session.slots ≡ 32
  pub empty_lists : (note : ℕ) → slot_of empty_session note ≡ empty_slot
  pub empty_asked : (note : ℕ) → ask empty_session note ≡ record { number = unlisted; status = 0; taken = 0 }
  -- "Given exactly when": what a delivery answers and leaves is a row of the table that holds, and no other row holds
  pub table : (s : Session) (note : ℕ) (piece : List ℕ) (d : Delivered) → (d ≡ deliver s note piece) ↔ Row s note piece d
  pub ask_table : (s : Session) (note : ℕ) (a : Answer) → (a ≡ ask s note) ↔ AskRow s note a
  -- a refused delivery leaves the session as it was
  pub refused :
      (s : Session) (note : ℕ) (piece : List ℕ) → ((deliver s note piece).answer.number ≡ accepted → ⊥)
      → (deliver s note piece).session ≡ s
  -- "An empty piece to a waiting note is accepted and changes nothing"
  pub empty_piece :
      (s : Session) (note : ℕ) → Waits s note
      → deliver s note [] ≡ record { answer = record { number = accepted; status = 1; taken = (slot_of s note).state.total }; session = s }
  -- when a piece is accepted, and what is counted then
  pub takes : TakesOf deliver
  pub counted : CountedOf deliver
  -- what is done with one slot, and a number, is what is done with the session: by a delivery, and by anything else
  pub by_slot :
      (s : Session) (note : ℕ) (piece : List ℕ)
      → deliver s note piece
      ≡ record {
        answer = (deliver_at (slot_of s note) note piece).answer;
        session = record {
          slots = (put_slot s note (deliver_at (slot_of s note) note piece).slot).slots;
          listed = s.listed;
          opened = open_after s.opened (slot_of s note).status (deliver_at (slot_of s note) note piece).slot.status;
        };
      }
  pub on_note_is :
      (s : Session) (note : ℕ) (f : Slot → Step)
      → on_note s note f
      ≡ record {
        answer = (on_slot (slot_of s note) note f).answer;
        session = record {
          slots = (put_slot s note (on_slot (slot_of s note) note f).slot).slots;
          listed = s.listed;
          opened = open_after s.opened (slot_of s note).status (on_slot (slot_of s note) note f).slot.status;
        };
      }
  pub ask_by_slot : (s : Session) (note : ℕ) → ask s note ≡ ask_at (slot_of s note) note
  pub on_note_lem : (s : Session) (note : ℕ) (piece : List ℕ) → deliver s note piece ≡ on_note s note (λ slot. deliver_to slot piece)
  pub note_of_lem : (note : ℕ) (piece : List ℕ) → note_of (delivery note piece) ≡ note
  -- a delivery, as one of the operations on a note
  pub delivers : (s : Session) (note : ℕ) (piece : List ℕ) → perform s (delivery note piece) ≡ deliver s note piece
  -- "A delivery looks at its own slot only", and so does any other operation on one note: the answer goes by that slot, and every other
  -- one stays; but since 3/13 it "also reads the open count", which goes by itself and by what becomes of that slot
  pub own_slot :
      (s t : Session) (note : ℕ) (f : Slot → Step) → slot_of s note ≡ slot_of t note
      → (on_note s note f).answer ≡ (on_note t note f).answer
  pub other_slots :
      (s : Session) (note m : ℕ) (f : Slot → Step) → (note ≡ m → ⊥) → 1 ≤ m → m ≤ 32 → slot_of (on_note s note f).session m ≡ slot_of s m
  pub own_count :
      (s t : Session) (note : ℕ) (f : Slot → Step) → slot_of s note ≡ slot_of t note → s.opened ≡ t.opened
      → (on_note s note f).session.opened ≡ (on_note t note f).session.opened
  pub listed_stays : (s : Session) (note : ℕ) (f : Slot → Step) → (on_note s note f).session.listed ≡ s.listed
  -- so operations on different notes may change places
  pub apart : (s : Session) (m n : ℕ) (f g : Slot → Step) → (m ≡ n → ⊥) → Apart s m n f g
  -- 3/13: "answer from those two alone: yes exactly when they are equal and not zero", whatever is stored
  pub lights : (listed opened : ℕ) → (all_open listed opened ≡ true) ↔ ((listed ≡ opened) × (opened ≡ 0 → ⊥))
  pub ready_by : (s : Session) → ready s ≡ all_open s.listed s.opened
  -- what becomes of the counts
  pub open_count : (count before after then : ℕ) → (then ≡ open_after count before after) ↔ OpenCount count before after then
  pub counts : (s : Session) (note : ℕ) (piece : List ℕ) → Counts s note piece
  -- a delivery opens its note exactly where the note's slot was not open, and is
  pub opened_then :
      (s : Session) (note : ℕ) (piece : List ℕ) → length s.slots ≡ 32
      → Opening s note piece ↔ (((slot_of s note).status ≡ 2 → ⊥) × ((slot_of (deliver s note piece).session note).status ≡ 2))
