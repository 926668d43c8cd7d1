-- Judging a rank sheet: document 01, "The rank sheet". "Lines are judged in order and the first bad one decides."
use Rattle.std.specs.Prelude.{ℕ, zero, suc, ◌+◌, List, [], ◌∷◌, cond, ltb, eqb, length, ⊤, Result, Ok, Err}
use Rattle.refusal.specs.Table.{number_by, accepted, form, count_or_note, bad_length, bad_loop}
use Rattle.rules.specs.Rules.{count_rule, note_rule, good_length, good_loop}
use Rattle.slots.specs.Slots.{waiting_slot}
use Rattle.session.specs.Sessions.{empty_session, put_slot}
use Rattle.session.specs.declared.Session.{Session}
use Rattle.lines.specs.Reading.{is_good}
use Rattle.lines.specs.declared.Field.{Field}
use Rattle.lines.specs.declared.NoteLine.{NoteLine}
use Rattle.lines.specs.Lines.{note_line, header_line, edition1}
use Rattle.lines.specs.declared.Entry.{Entry}
use Rattle.lines.specs.declared.Fault.{Fault}
use Rattle.lines.specs.declared.Read.{Read}
use Rattle.refusal.specs.declared.Refusal.{Refusal}
use Rattle.refusal.specs.declared.Refusal.TheVariants
use Rattle.sheet.specs.declared.Bad.{Bad}
use Rattle.sheet.specs.declared.Verdict.{Verdict}
use Rattle.sheet.specs.declared.Sheet.{Sheet}

-- "Line 1: `RANK`, `1`, and the number of notes n": at a place
abbrev pub header_at : (text : List ℕ) (at : ℕ) → Field
header_at text at = header_line text at edition1

-- "Within a line: form (1); then count or note (2); length (3); loop (4)"
unfoldable pub header_number : Field → ℕ
header_number h = cond (is_good h.stop) (cond (count_rule h.value) accepted count_or_note) form

unfoldable pub entry_number : (last : ℕ) → Entry → ℕ
entry_number last e =
    cond (note_rule last e.note) (cond (good_length e.sample) (cond (good_loop e.sample) accepted bad_loop) bad_length) count_or_note

unfoldable pub note_number : (last : ℕ) → NoteLine → ℕ
note_number last l = cond (is_good l.stop) (entry_number last l.entry) form

-- the same as the code judges: what was read of a line, or why the line is refused
unfoldable pub header_judged : Result (Read ℕ) Fault → Result (Read ℕ) Refusal
header_judged (Ok h) = cond (count_rule h.value) (Ok h) (Err TheVariants.CountOrNote)
header_judged (Err fault) = Err TheVariants.Form

unfoldable pub entry_judged : (last : ℕ) → Entry → Result ⊤ Refusal
entry_judged last e =
    cond (note_rule last e.note)
    (cond (good_length e.sample) (cond (good_loop e.sample) (Ok tt) (Err TheVariants.BadLoop)) (Err TheVariants.BadLength))
    (Err TheVariants.CountOrNote)

-- what was read, where it is accepted
abbrev pub accepted_read : {A : Type 0} → A → Result ⊤ Refusal → Result A Refusal
accepted_read read (Ok _) = Ok read
accepted_read read (Err refusal) = Err refusal

unfoldable pub line_judged : (last : ℕ) → Result (Read Entry) Fault → Result (Read Entry) Refusal
line_judged last (Ok l) = accepted_read l (entry_judged last l.value)
line_judged last (Err fault) = Err TheVariants.Form

-- a line is bad, with its number; or none is: "an accepted sheet's line is 0"
unfoldable pub verdict_at : (number line : ℕ) → Verdict
verdict_at number line = record { number = number; line = line }

unfoldable pub all_good : Verdict
unfolding verdict_at
all_good = verdict_at accepted 0

-- what the code answers of a judged sheet
unfoldable pub verdict_of : Result ⊤ Bad → Verdict
unfolding all_good verdict_at
verdict_of (Ok _) = all_good
verdict_of (Err bad) = verdict_at (number_by bad.refusal) bad.line

-- the lines of so many notes more, from a place, a line's number and the note before; then "Nothing follows"
unfoldable pub judged_notes : (notes : ℕ) (text : List ℕ) (at line last : ℕ) → Verdict
judged_notes zero text at line last = cond (ltb at (length text)) (verdict_at form line) all_good
judged_notes (suc notes) text at line last =
    let l = note_line text at in
    let rest = judged_notes notes text l.stop.at (line + 1) l.entry.note in
    cond (eqb (note_number last l) accepted) rest (verdict_at (note_number last l) line)

-- the sheet that begins at a place: line 1, and then the lines of n notes
unfoldable pub judged : (text : List ℕ) (at : ℕ) → Verdict
judged text at =
    let h = header_at text at in
    cond (eqb (header_number h) accepted) (judged_notes h.value text h.stop.at 2 0) (verdict_at (header_number h) 1)

-- the entries of so many note lines, from a place
unfoldable pub entries_at : (notes : ℕ) (text : List ℕ) (at : ℕ) → List Entry
entries_at zero text at = []
entries_at (suc notes) text at = let l = note_line text at in l.entry ∷ entries_at notes text l.stop.at

-- the session with the notes of more entries listed, "each waiting, with its own line's record and a fresh state"
unfoldable pub with_notes : Session → List Entry → Session
with_notes s [] = s
with_notes s (e ∷ es) = with_notes (put_slot s e.note (waiting_slot e.sample)) es

-- "An accepted sheet's session lists exactly the notes of its lines"; 3/13: it carries how many these are, and that none is open
unfoldable pub session_of : (text : List ℕ) → Session
session_of text =
    let h = header_at text 0 in
    let entries = entries_at h.value text h.stop.at in
    record { slots = (with_notes empty_session entries).slots; listed = length entries; opened = 0 }

-- a refused sheet: "line number; session with no note listed"; 3/13: "A refused sheet has both 0"
unfoldable pub sheet_of : (text : List ℕ) → Sheet
sheet_of text =
    let verdict = judged text 0 in
    record { verdict = verdict; session = cond (eqb verdict.number accepted) (session_of text) empty_session }
