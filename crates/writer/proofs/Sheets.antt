-- The sheet, row by row: refused, or laid note by note behind line 1. Assumes nothing.
use Prim.Native.Nat.{ℕ, ◌+◌, ◌<◌, ◌≤◌}
use mathlib.Core.Path.{◌≡◌, sym, ap, ◌∙◌, subst}
use mathlib.Core.List.{List, [], ◌∷◌, ◌++◌, append_assoc, append-nil}
use native.Mathlib.Nat.{zero-add}
use native.Mathlib.Omega.{arith}
use borrow.Author.Tests.{eq-eqb, ne_eqb}
use lib.ListN.{length, get_or, length-append}
use Rattle.std.specs.Prelude.{Result, Ok, Err, IsErrAnd}
use Rattle.buffers.specs.Copy.{copied}
use Rattle.buffers.proofs.Copied.{copied_front}
use Rattle.refusal.specs.Table.{written_of}
use Rattle.refusal.specs.declared.Refusal.{Refusal}
use Rattle.refusal.specs.declared.Refusal.TheVariants
use Rattle.lines.specs.declared.Entry.{Entry}
use Rattle.slots.specs.declared.Slot.{Slot}
use Rattle.session.specs.declared.Session.{Session}
use Rattle.writing.specs.Texts.{header_text, line_text, lines_text, sheet_text}
use Rattle.writing.specs.Writing.{entry_of, entries_to, entries_of, sheet_written, with_sheet}
use Rattle.writing.specs.Promises.{Row, row6, row15, row16, row0, Unspoilt, SomeListed, sheet_size}
use Rattle.writing.proofs.Laying.{part_laid}
use Rattle.writing.proofs.Notes.{unspoilt_is, spoilt_is, none_is, some_is}
use Rattle.writing.proofs.Proved.{proved as writing}
use Rattle.writer.specs.Survey.{survey}
use Rattle.writer.specs.declared.Found.{Found}
use Rattle.writer.proofs.Slots.{lines_within, entries_same, lines_next}
use Rattle.writer.proofs.Surveys.{survey_ok, survey_err}

-- line 1 and the lines of so many notes
abbrev pub so_far : Session → ℕ → List ℕ
so_far s i = header_text (length (entries_of s)) ++ lines_text (entries_to s i)

-- so much is laid
pub record Laid (s : Session) (b : List ℕ) (at i : ℕ) (x : List ℕ) : Type 0 where
  pub within : i ≤ 32
  pub behind : at ≡ length (so_far s i)
  pub laid : x ≡ copied b 0 (so_far s i)

sheet_sizes : (s : Session) → sheet_size s ≡ length (header_text (length (entries_of s))) + length (lines_text (entries_of s))
unfolding sheet_text
sheet_sizes s = length-append (header_text (length (entries_of s))) (lines_text (entries_of s))

-- what `write` answers, and leaves in the buffer
module _ (s : Session) (b : List ℕ) where
  abbrev pub Told : Result ℕ Refusal → List ℕ → Type 0
  Told answer after = (written_of answer ≡ sheet_written s (length b)) × (after ≡ with_sheet s b)

  by_row : (answer : Result ℕ Refusal) (after : List ℕ) → Row s b (written_of answer) after → Told answer after
  by_row answer after row = (writing.table s b (written_of answer) after).1 row

  pub told_spoilt : (answer : Result ℕ Refusal) (refusal : Refusal) → IsErrAnd answer (λ (x : Refusal). x ≡ refusal) → Err refusal ≡ survey s → Told answer b
  told_spoilt (Ok n) refusal same e = absurd same
  told_spoilt (Err other) refusal same e =
      let found = survey_err s refusal e in
      rw (same, found.1) (by_row (Err TheVariants.SlotNotInOrder) b (row6 ((spoilt_is s).0 found.0)))

  module _ (found : Found) (e : Ok found ≡ survey s) where
    sound : Unspoilt s
    sound = (unspoilt_is s).0 (survey_ok s found e).0

    notes : found.notes ≡ length (entries_of s)
    notes = ap (λ (x : Found). x.notes) (survey_ok s found e).1

    size : found.size ≡ length (lines_text (entries_of s))
    size = ap (λ (x : Found). x.size) (survey_ok s found e).1

    pub told_none : found.notes ≡ 0 → Told (Err TheVariants.NoneListed) b
    told_none none = by_row (Err TheVariants.NoneListed) b (row15 sound ((none_is s).0 (eq-eqb _ _ (sym notes ∙ none))))

    module _ (some : found.notes ≡ 0 → ⊥) where
      some_listed : SomeListed s
      some_listed = (some_is s).0 (ne_eqb _ _ (λ (h : length (entries_of s) ≡ 0). some (notes ∙ h)))

      module _ (header : ℕ) (is_header : header ≡ length (header_text found.notes)) where
        whole : header + found.size ≡ sheet_size s
        whole = rw (is_header, notes, size) (sym (sheet_sizes s))

        pub told_short : length b < header + found.size → Told (Err TheVariants.ShortBuffer) b
        told_short short = by_row (Err TheVariants.ShortBuffer) b (row16 sound some_listed (omega (arith, whole, short)))

        pub told_written : header + found.size ≤ length b → (after : List ℕ) → after ≡ copied b 0 (so_far s 32) → Told (Ok (header + found.size)) after
        unfolding sheet_text entries_of
        told_written fits after laid =
            let fit : sheet_size s ≤ length b = omega (arith, whole, fits) in
            rw (whole, laid ∙ copied_front b (sheet_text (entries_of s)) fit) (by_row (Ok (sheet_size s)) _ (row0 sound some_listed fit))

        pub sheet_fits : header + found.size ≤ length b → sheet_size s ≤ length b
        sheet_fits fits = omega (arith, whole, fits)

    -- line 1 is laid
    pub line_1 : (at : ℕ) (x : List ℕ) → (at ≡ length (header_text found.notes)) × (x ≡ copied b 0 (header_text found.notes)) → Laid s b at 0 x
    unfolding entries_to lines_text
    line_1 at x put =
        let header : header_text found.notes ≡ so_far s 0 = ap header_text notes ∙ sym (append-nil (header_text (length (entries_of s)))) in
        record { within = omega arith; behind = put.0 ∙ ap length header; laid = put.1 ∙ ap (copied b 0) header }

-- and the lines of so many slots
module _ (s : Session) (b : List ℕ) (z : Slot) (none : z.status ≡ 0) (at i : ℕ) (x : List ℕ) (f : Laid s b at i x) where
  pub passed : i < 32 → [] ≡ entry_of (i + 1) (get_or s.slots i z) → Laid s b at (i + 1) x
  passed l nothing =
      let same = entries_same s z none i l nothing in record { within = omega arith; behind = f.behind ∙ rw same; laid = f.laid ∙ rw same }

  module _ (l : i < 32) (e : Entry) (its : e ∷ [] ≡ entry_of (i + 1) (get_or s.slots i z)) (fit : sheet_size s ≤ length b) where
    next : so_far s (i + 1) ≡ so_far s i ++ line_text e
    next = rw (lines_next s z none i l e its) (sym (append_assoc (header_text (length (entries_of s))) (lines_text (entries_to s i)) (line_text e)))

    room : length (so_far s i) + length (line_text e) ≤ length b
    unfolding entries_of
    room =
        omega (
          arith,
          fit,
          sheet_sizes s,
          ap length next,
          length-append (so_far s i) (line_text e),
          length-append (header_text (length (entries_of s))) (lines_text (entries_to s (i + 1))),
          lines_within s (i + 1) 32 (omega (arith, l)),
        )

    -- the next line fits
    pub line_fits : (long : ℕ) → long ≡ length (line_text e) → at + long ≤ length b
    line_fits long is_long = omega (arith, room, f.behind, is_long)

    pub laid_next : (long : ℕ) (y : List ℕ) → (long ≡ length (line_text e)) × (y ≡ copied x at (line_text e)) → Laid s b (at + long) (i + 1) y
    laid_next long y put =
        record {
          within = omega arith;
          behind = rw next (omega (arith, put.0, f.behind, length-append (so_far s i) (line_text e)));
          laid = put.1 ∙ rw (next, f.behind, f.laid) (ap (λ (k : ℕ). copied (copied b 0 (so_far s i)) k (line_text e)) (sym (zero-add (length (so_far s i)))) ∙ sym (part_laid b (so_far s i) (line_text e) 0 (omega (arith, room))));
        }

pub all_laid : (s : Session) (b : List ℕ) (at i : ℕ) (x : List ℕ) → Laid s b at i x → 32 ≤ i → x ≡ copied b 0 (so_far s 32)
all_laid s b at i x f big =
    let last : i ≡ 32 = omega (arith, f.within) in
    subst (λ (n : ℕ). x ≡ copied b 0 (so_far s n)) last f.laid
