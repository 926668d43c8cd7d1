-- The crate's promises, proved. Assumes nothing.
use Prim.Native.Nat.{ℕ, ◌-◌, ◌<◌}
use mathlib.Core.Path.{◌≡◌, refl, sym, ap, ◌∙◌}
use mathlib.Core.Logic.{◌↔◌}
use mathlib.Core.List.{List, [], ◌∷◌, ◌++◌}
use native.Mathlib.Omega.{arith}
use lib.ListN.{length, get_or, drop, replicate, length-append, get_or-replicate}
use lib.Seq.{take-append_seam, drop-append_seam}
use Rattle.refusal.specs.declared.Written.{Written}
use Rattle.rules.specs.Rules.{count_rule, is_note, note_rule, length_rule, loop_rule}
use Rattle.lines.specs.declared.Entry.{Entry}
use Rattle.slots.specs.Slots.{empty_slot}
use Rattle.slots.specs.declared.Slot.{Slot}
use Rattle.session.specs.Sessions.{empty_session}
use Rattle.session.specs.Promises.{Listed}
use Rattle.session.specs.declared.Session.{Session}
use Rattle.session.proofs.Proved.{proved as session}
use Rattle.sheet.specs.Judging.{sheet_of}
use Rattle.sheet_promises.specs.Grammar.{IsSheet, entry, no_entry_lem}
use Rattle.sheet_promises.proofs.Proved.{proved as sheet}
use Rattle.promises.specs.Sequences.{after}
use Rattle.rejected.specs.Example.{text, note9, notes}
use Rattle.rejected.proofs.Proved.{proved as example}
use Rattle.writing.specs.Texts.{sheet_text}
use Rattle.writing.specs.Promises.{TableOf, Row, row15, row16}
use Rattle.writing_promises.specs.Promises.{Promises, StoredDigest}
use Rattle.writing_promises.specs.Wrong.{Answering, Leaving, WritesOnly}
use Rattle.writing_promises.proofs.Spelled.{digest_spelled, header_spelled, line_spelled, sheet_spelled, example_spelled}
use Rattle.writing_promises.proofs.OneText.{one_bytes, one_digest, one_text}
use Rattle.writing_promises.proofs.Members.{the_one}
use Rattle.writing_promises.proofs.Entries.{shows, one_list}
use Rattle.writing_promises.proofs.Again.{sheet_written_lem, size, long_enough, reads_back, same_bytes, same_bytes_later}
use Rattle.writing_promises.proofs.Again.{same_row, same_text, still_unspoilt, still_some}

-- a sheet's text is read as one list of entries, and a list is spelled as one text
one_to_one : (one other : List ℕ) (es others : List Entry) → IsSheet one es → IsSheet other others → (one ≡ other) ↔ (es ≡ others)
one_to_one one other es others s t = (
  λ e. sheet.one_reading other es others (rw e at s) t,
  λ e. one_text one other others (rw e at s) t,
)

-- a sheet's session is accepted where there is room, and refused where there is none
module _ (words : List ℕ) (es : List Entry) (is : IsSheet words es) where
  room : Row (sheet_of words).session words (record { number = 0; count = length words }) (words ++ drop (length words) words)
  unfolding after
  room = same_row words es is [] words (omega arith)

  no_room : 0 < length words → Row (sheet_of words).session [] (record { number = 16; count = 0 }) []
  unfolding after
  no_room long = row16 (still_unspoilt words es is []) (still_some words es is []) (rw (same_text words es is []) long)

-- the session with no note listed is refused
none_listed_lem : (note : ℕ) → Listed empty_session note → ⊥
unfolding empty_slot
none_listed_lem note l = l.2 (ap (λ (x : Slot). x.status) (session.empty_lists note))

refused_empty : (buffer : List ℕ) → Row empty_session buffer (record { number = 15; count = 0 }) buffer
refused_empty buffer = row15 (λ note l. absurd (none_listed_lem note l)) none_listed_lem

-- another sheet, of one note
zero_stored : StoredDigest (replicate 32 0)
zero_stored = record { long = refl; bytes = λ i below. rw (get_or-replicate {A = ℕ} 32 i 0 0 below) (omega arith) }

only_9 : IsSheet (sheet_text (note9 ∷ [])) (note9 ∷ [])
unfolding count_rule note_rule is_note length_rule loop_rule
only_9 =
    sheet_spelled (note9 ∷ []) refl (entry (record { note_rule_lem = refl; length_rule_lem = refl; loop_rule_lem = refl }) no_entry_lem)
    (λ e a. rw (the_one a) zero_stored)

has_bytes : 0 < length text
unfolding text
has_bytes = omega arith

-- a writer that keeps to the table: its number in a row, and what it writes of a sheet's session
module _ (answering : Answering) (leaving : Leaving) (table : TableOf answering leaving) where
  number : {s : Session} {buffer left : List ℕ} {answer : Written} → Row s buffer answer left → (answering s buffer).number ≡ answer.number
  number {s} {buffer} {left} {answer} row = ap (λ (w : Written). w.number) (sym ((table s buffer answer left).1 row).0)

  writes : (only words : List ℕ) (es : List Entry) → WritesOnly only answering leaving → IsSheet words es → words ≡ only
  writes only words es same is =
      let row = room words es is in
      let h = (table _ words _ _).1 row in
      sym (take-append_seam words (drop (length words) words)) ∙ rw (← h.0, ← h.1) at (same (sheet_of words).session words (number row))

example_room : Row (sheet_of text).session text (record { number = 0; count = length text }) (text ++ drop (length text) text)
example_room = room text notes example.is_sheet

-- one byte behind the example's sheet
behind : List ℕ
behind = text ++ (1 ∷ [])

example_behind : Row (sheet_of text).session behind (record { number = 0; count = length text }) behind
unfolding after behind
example_behind =
    rw (drop-append_seam text (1 ∷ [])) at (same_row text notes example.is_sheet [] (text ++ (1 ∷ [])) (omega (arith, length-append text (1 ∷ []))))

pub proved : Promises
unfolding behind
proved =
    record {
      one_bytes = one_bytes;
      one_digest = one_digest;
      one_to_one = one_to_one;
      digest = digest_spelled;
      header = header_spelled;
      line = line_spelled;
      sheet = sheet_spelled;
      example = example_spelled;
      is_sheet = λ s buffer. sheet_written_lem s buffer;
      shows = shows;
      one_list = one_list;
      size = size;
      long_enough = long_enough;
      reads_back = reads_back;
      same_bytes = same_bytes;
      same_bytes_later = same_bytes_later;
      refuses_all = λ answering leaving never table. never (sheet_of text).session text (number answering leaving table example_room);
      accepts_all =
          λ answering leaving always table.
          let e = number answering leaving table (refused_empty []) in
          let f = always empty_session [] in
          omega arith;
      writes_only =
          λ only answering leaving same table.
          let all = writes answering leaving table only text notes same example.is_sheet in
          let one = writes answering leaving table only (sheet_text (note9 ∷ [])) (note9 ∷ []) same only_9 in
          let e = ap length ((one_to_one text (sheet_text (note9 ∷ [])) notes (note9 ∷ []) example.is_sheet only_9).0 (all ∙ sym one)) in
          omega arith;
      ignores_session =
          λ answering leaving same table.
          let e = number answering leaving table example_room in
          let f = number answering leaving table (refused_empty text) in
          let g = ap (λ (w : Written). w.number) (same (sheet_of text).session empty_session text) in
          omega arith;
      ignores_room =
          λ answering leaving same table.
          let e = number answering leaving table example_room in
          let f = number answering leaving table (no_room text notes example.is_sheet has_bytes) in
          let g = ap (λ (w : Written). w.number) (same (sheet_of text).session text []) in
          omega arith;
      changes_refused =
          λ answering leaving changes table.
          let number15 = number answering leaving table (refused_empty []) in
          changes empty_session [] (λ e. omega arith) (sym ((table empty_session [] _ _).1 (refused_empty [])).1);
      clears_behind =
          λ answering leaving clears table.
          let row = (table _ behind _ _).1 example_behind in
          let cleared = rw (← row.0, ← row.1) at (clears (sheet_of text).session behind (number answering leaving table example_behind)) in
          let one : length behind - length text ≡ 1 = omega (arith, length-append text (1 ∷ [])) in
          let first = ap (λ (l : List ℕ). get_or l 0 0) (rw (drop-append_seam text (1 ∷ []), one) at cleared) in
          omega arith;
    }
