-- What a sheet's lines put into a session, step by step: by value and in place.
use Rattle.lines.specs.declared.Field.{Field}
use Rattle.std.specs.Prelude.{ℕ, ◌%◌, List, cond, eqb}
use Rattle.refusal.specs.Table.{accepted}
use Rattle.slots.specs.Slots.{waiting_slot}
use Rattle.session.specs.Sessions.{slot_index}
use Rattle.session.specs.declared.Session.{Session}
use Rattle.lines.specs.Lines.{note_line}
use Rattle.sheet.specs.declared.Verdict.{Verdict}
use Rattle.sheet.specs.declared.Listing.{Listing}
use Rattle.sheet.specs.declared.Start.{Start}

-- the line at a place: its note's slot, "waiting, with its own line's record and a fresh state", and which that is
unfoldable pub listing : (text : List ℕ) (at : ℕ) → Listing
listing text at =
    let l = note_line text at in
    record { index = slot_index l.entry.note; slot = waiting_slot l.entry.sample; next = l.stop.at }

-- where the note lines begin behind a header, and how many there are, also as a byte: none of a refused sheet
unfoldable pub start : (header : Field) → Verdict → Start
start header v =
    let notes = cond (eqb v.number accepted) header.value 0 in
    record { at = header.stop.at; notes = notes; listed = notes % 256 }

-- a session with another listed count
abbrev pub with_listed : Session → (listed : ℕ) → Session
with_listed s listed = record { slots = s.slots; listed = listed; opened = s.opened }
