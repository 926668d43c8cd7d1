-- Writing the sheet of a session: document 02, 1/13.
use Rattle.std.specs.Prelude.{ℕ, zero, suc, List, [], ◌∷◌, ◌++◌, Bool, true, cond, ◌&&◌, ◌||◌, ltb, eqb, length, drop}
use Rattle.refusal.specs.Table.{accepted, slot_not_in_order, none_listed, short_buffer, refused_by, wrote}
use Rattle.refusal.specs.declared.Written.{Written}
use Rattle.lines.specs.declared.Entry.{Entry}
use Rattle.slots.specs.Slots.{none, slot_in_order}
use Rattle.slots.specs.declared.Slot.{Slot}
use Rattle.session.specs.Sessions.{slot_of}
use Rattle.session.specs.declared.Session.{Session}
use Rattle.writing.specs.Texts.{sheet_text}

-- "A slot is unlisted exactly when its status is 0": what a sheet says of a note, nothing of one that is unlisted
unfoldable pub entry_of : (note : ℕ) → Slot → List Entry
entry_of note slot = cond (eqb slot.status none) [] (record { note = note; sample = slot.sample } ∷ [])

-- the listed ones of the notes 1 to n, rising
unfoldable pub entries_to : Session → (n : ℕ) → List Entry
entries_to s zero = []
entries_to s (suc n) = entries_to s n ++ entry_of (suc n) (slot_of s (suc n))

-- and of all 32
unfoldable pub entries_of : Session → List Entry
entries_of s = entries_to s 32

-- unlisted, or in order: what an unlisted slot holds is not looked at
unfoldable pub unspoilt : Slot → Bool
unspoilt slot = eqb slot.status none || slot_in_order slot

-- every slot of the notes 1 to n is
unfoldable pub unspoilt_to : Session → (n : ℕ) → Bool
unspoilt_to s zero = true
unspoilt_to s (suc n) = unspoilt_to s n && unspoilt (slot_of s (suc n))

-- "Refusals: 6 for a listed slot not in order; 15, no note listed; 16, buffer shorter than the sheet; in that order"
unfoldable pub write_number : Session → (room : ℕ) → ℕ
write_number s room =
    cond (unspoilt_to s 32)
    (cond (eqb (length (entries_of s)) 0) none_listed (cond (ltb room (length (sheet_text (entries_of s)))) short_buffer accepted))
    slot_not_in_order

-- "answering the byte count"; "count 0"
unfoldable pub sheet_written : Session → (room : ℕ) → Written
sheet_written s room =
    let number = write_number s room in cond (eqb number accepted) (wrote (length (sheet_text (entries_of s)))) (refused_by number)

-- "Write the sheet of a session into a lent buffer"; "bytes after it keep their content"; "buffer untouched"
unfoldable pub with_sheet : Session → (buffer : List ℕ) → List ℕ
with_sheet s buffer =
    let text = sheet_text (entries_of s) in cond (eqb (write_number s (length buffer)) accepted) (text ++ drop (length text) buffer) buffer
