-- What the sheet's steps promise, one by one. What they promise of whole texts is in the crate `sheet_promises`.
use Rattle.lines.specs.declared.Field.{Field}
use Rattle.lines.specs.Fields.{field_of}
use Rattle.std.specs.Prelude.{ℕ, suc, ◌+◌, ◌%◌, ◌<◌, ◌≤◌, ◌≡◌, List, [], ◌∷◌, true, false, length, replicate, ⊤, Result, Ok, Err}
use Rattle.refusal.specs.Table.{number_by, number_of, accepted, form, count_or_note, bad_length, bad_loop}
use Rattle.rules.specs.Rules.{count_rule, note_rule, good_length, good_loop}
use Rattle.standard.specs.Standard.{IV}
use Rattle.slots.specs.Slots.{waiting_slot}
use Rattle.session.specs.Sessions.{slot_index, put_slot}
use Rattle.session.specs.declared.Session.{Session}
use Rattle.lines.specs.declared.NoteLine.{NoteLine}
use Rattle.lines.specs.Lines.{line_of, note_line, header_line}
use Rattle.lines.specs.declared.Entry.{Entry}
use Rattle.lines.specs.declared.Fault.{Fault}
use Rattle.lines.specs.declared.Read.{Read}
use Rattle.sheet.specs.Judging.{header_at, header_number, entry_number, note_number, header_judged, entry_judged, line_judged}
use Rattle.sheet.specs.Judging.{verdict_of, judged_notes, judged, entries_at, with_notes}
use Rattle.sheet.specs.Filling.{listing, start, with_listed}
use Rattle.sheet.specs.declared.Bad.{Bad}
use Rattle.sheet.specs.declared.Verdict.{Verdict}

-- line 1: form, then the count
pub record OfHeader (h : Field) : Type 0 where
  pub ill_formed : (h.stop.wanted ≡ 0 → ⊥) → header_number h ≡ form
  pub bad_count : h.stop.wanted ≡ 0 → count_rule h.value ≡ false → header_number h ≡ count_or_note
  pub good : h.stop.wanted ≡ 0 → count_rule h.value ≡ true → header_number h ≡ accepted

-- a well-formed note line: the note, then the length, then the loop
pub record OfEntry (last : ℕ) (e : Entry) : Type 0 where
  pub bad_note : note_rule last e.note ≡ false → entry_number last e ≡ count_or_note
  pub bad_length_lem : note_rule last e.note ≡ true → good_length e.sample ≡ false → entry_number last e ≡ bad_length
  pub bad_loop_lem :
      note_rule last e.note ≡ true → good_length e.sample ≡ true → good_loop e.sample ≡ false
      → entry_number last e ≡ bad_loop
  pub good :
      note_rule last e.note ≡ true → good_length e.sample ≡ true → good_loop e.sample ≡ true
      → entry_number last e ≡ accepted

-- a note line: form first
pub record OfLine (last : ℕ) (l : NoteLine) : Type 0 where
  pub ill_formed : (l.stop.wanted ≡ 0 → ⊥) → note_number last l ≡ form
  pub well_formed : l.stop.wanted ≡ 0 → note_number last l ≡ entry_number last l.entry

-- "Lines are judged in order and the first bad one decides": the line at a place, and then the others; then "Nothing follows"
pub record OfNotes (text : List ℕ) (at line last : ℕ) : Type 0 where
  pub this :
      (notes : ℕ) → (note_number last (note_line text at) ≡ accepted → ⊥)
      → judged_notes (suc notes) text at line last ≡ record { number = note_number last (note_line text at); line = line }
  pub rest :
      (notes : ℕ) → note_number last (note_line text at) ≡ accepted
      → judged_notes (suc notes) text at line last
      ≡ judged_notes notes text (note_line text at).stop.at (line + 1) (note_line text at).entry.note
  pub follows : at < length text → judged_notes 0 text at line last ≡ record { number = form; line = line }
  pub ends : length text ≤ at → judged_notes 0 text at line last ≡ record { number = accepted; line = 0 }

-- the header is line 1, and its notes begin behind it, at line 2, after no note
pub record OfSheet (text : List ℕ) (at : ℕ) : Type 0 where
  pub header :
      (header_number (header_at text at) ≡ accepted → ⊥) → judged text at ≡ record { number = header_number (header_at text at); line = 1 }
  pub notes :
      header_number (header_at text at) ≡ accepted
      → judged text at ≡ judged_notes (header_at text at).value text (header_at text at).stop.at 2 0

-- what lines put into a session, line by line: "each waiting, with its own line's record and a fresh state"; and the count that it carries
pub record OfFilling (text : List ℕ) (at : ℕ) (s : Session) (e : Entry) (es : List Entry) : Type 0 where
  pub no_entry_lem : entries_at 0 text at ≡ []
  pub more_entries :
      (notes : ℕ)
      → entries_at (suc notes) text at ≡ (note_line text at).entry ∷ entries_at notes text (note_line text at).stop.at
  pub no_note : with_notes s [] ≡ s
  pub more_notes : with_notes s (e ∷ es) ≡ with_notes (put_slot s e.note (waiting_slot e.sample)) es
  pub counted : (listed : ℕ) → with_listed s listed ≡ record { slots = s.slots; listed = listed; opened = s.opened }

-- what the code answers of a line is told by the line's number, and what it accepts is what was read
pub record Judges (header : Result (Read ℕ) Fault) (last : ℕ) (e : Entry) (line : Result (Read Entry) Fault) : Type 0 where
  pub header_told : number_of (header_judged header) ≡ header_number (field_of header)
  pub header_kept : (read : Read ℕ) → header_judged header ≡ Ok read → header ≡ Ok read
  pub entry_told : number_of (entry_judged last e) ≡ entry_number last e
  pub line_told : number_of (line_judged last line) ≡ note_number last (line_of line)
  pub line_kept : (read : Read Entry) → line_judged last line ≡ Ok read → line ≡ Ok read

pub record Promises : Type 0 where
  -- "Line 1: `RANK`, `1`": the figure 1
  pub header_at_lem : (text : List ℕ) (at : ℕ) → header_at text at ≡ header_line text at 0x31
  -- "Within a line: form (1); then count or note (2); length (3); loop (4)"
  pub of_header : (h : Field) → OfHeader h
  pub of_entry : (last : ℕ) (e : Entry) → OfEntry last e
  pub of_line : (last : ℕ) (l : NoteLine) → OfLine last l
  pub judges :
      (header : Result (Read ℕ) Fault) (last : ℕ) (e : Entry) (line : Result (Read Entry) Fault)
      → Judges header last e line
  -- a host is told of a judged sheet by the refusal's number and the line's, and all that was answered: two answers told alike are one
  pub good_told : verdict_of (Ok tt) ≡ record { number = accepted; line = 0 }
  pub bad_told : (bad : Bad) → verdict_of (Err bad) ≡ record { number = number_by bad.refusal; line = bad.line }
  pub verdict_once : (x y : Result ⊤ Bad) → verdict_of x ≡ verdict_of y → x ≡ y
  pub of_notes : (text : List ℕ) (at line last : ℕ) → OfNotes text at line last
  pub of_sheet : (text : List ℕ) (at : ℕ) → OfSheet text at
  -- the note lines begin behind the header, and a refused sheet has none. (An accepted sheet's count is at most 32, which `% 256` leaves.)
  pub starts :
      (h : Field) (v : Verdict) → v.number ≡ accepted
      → start h v ≡ record { at = h.stop.at; notes = h.value; listed = h.value % 256 }
  pub starts_none : (h : Field) (v : Verdict) → (v.number ≡ accepted → ⊥) → start h v ≡ record { at = h.stop.at; notes = 0; listed = 0 }
  -- "each waiting, with its own line's record and a fresh state", in its note's slot
  pub listed :
      (text : List ℕ) (at : ℕ)
      → listing text at
      ≡ record {
        index = slot_index (note_line text at).entry.note;
        slot = record {
          sample = (note_line text at).entry.sample;
          state = record { words = IV; total = 0; tail = replicate 64 0 };
          status = 1;
        };
        next = (note_line text at).stop.at;
      }
  -- what the lines of a session put into it
  pub of_filling : (text : List ℕ) (at : ℕ) (s : Session) (e : Entry) (es : List Entry) → OfFilling text at s e es
