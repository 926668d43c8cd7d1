-- A sheet's lines: document 01, "The rank sheet".
use Rattle.std.specs.Prelude.{ℕ, List, [], ◌∷◌, cond, Result, Ok, Err}
use Rattle.rules.specs.Rules.{zero_record}
use Rattle.lines.specs.declared.Entry.{Entry}
use Rattle.lines.specs.declared.Fault.{Fault}
use Rattle.lines.specs.declared.Read.{Read}
use Rattle.lines.specs.declared.NoteLine.{NoteLine}
use Rattle.lines.specs.declared.Stop.{Stop}
use Rattle.lines.specs.Reading.{word, separator, tab, lf, good_stop, is_good, mark_after, word_after, fault_of}
use Rattle.lines.specs.declared.Field.{Field}
use Rattle.lines.specs.Fields.{field_after, digest_after}

-- a note line's entry, and the place after the line; or what was wanted, and where
unfoldable pub no_entry : Entry
no_entry = record { note = 0; sample = zero_record }

abbrev pub good_line : (entry : Entry) (next : ℕ) → NoteLine
good_line entry next = record { stop = good_stop next; entry = entry }

abbrev pub line_fault : Stop → NoteLine
line_fault stop = record { stop = stop; entry = no_entry }

-- what the code answers of a note line
abbrev pub line_of : Result (Read Entry) Fault → NoteLine
line_of (Ok r) = good_line r.value r.next
line_of (Err f) = line_fault (fault_of f)

-- "note, length in bytes, loop start, loop end (frames), digest"
unfoldable pub note_line : (text : List ℕ) (at : ℕ) → NoteLine
note_line text at =
    let note = field_after text (good_stop at) tab in
    let length = field_after text note.stop tab in
    let start = field_after text length.stop tab in
    let end = field_after text start.stop tab in
    let digest = digest_after text end.stop in
    let close = mark_after text digest.stop lf separator in
    let entry : Entry = record {
      note = note.value;
      sample = record { length = length.value; loop_start = start.value; loop_end = end.value; digest = digest.digest };
    } in
    cond (is_good close) (record { stop = close; entry = entry }) (line_fault close)

-- "`RANK`, `1`, and the number of notes": at a place, and for an edition, which is a figure
unfoldable pub header_line : (text : List ℕ) (at edition : ℕ) → Field
header_line text at edition =
    let rank = word_after text (good_stop at) (0x52 ∷ 0x41 ∷ 0x4e ∷ 0x4b ∷ []) word in
    let first = mark_after text rank tab separator in
    let figure = mark_after text first edition word in
    let second = mark_after text figure tab separator in
    field_after text second lf

-- "Line 1: `RANK`, `1`": the edition of these sheets
abbrev pub edition1 : ℕ
edition1 = 0x31
