-- Whole sheets: a text is one, or it is refused by its first bad line. Assumes nothing.
use Prim.Native.Nat.{ℕ, ◌+◌}
use mathlib.Core.Path.{◌≡◌, refl, sym, ap, ◌∙◌}
use mathlib.Core.List.{List, ◌++◌}
use mathlib.Core.Bool.{true, false}
use mathlib.Core.Logic.{◌⊎◌, inl, inr, ⊎_elim}
use native.Mathlib.Omega.{arith}
use lib.ListN.{length, drop}
use Rattle.refusal.specs.Table.{accepted, form, count_or_note}
use Rattle.rules.specs.Rules.{count_rule}
use Rattle.lines.specs.Reading.{is_good}
use Rattle.lines.specs.declared.Field.{Field}
use Rattle.lines.specs.Fields.{good_field}
use Rattle.lines.specs.Lines.{header_line, edition1}
use Rattle.sheet.specs.Judging.{verdict_at, judged_notes, judged, entries_at}
use Rattle.lines.specs.declared.Entry.{Entry}
use Rattle.truth.proofs.Tests.{either, never, not_both}
use Rattle.sheet.proofs.Verdicts.{header_ill, header_bad, header_good, header_decides, notes_decide}
use Rattle.sheet_promises.specs.Grammar.{IsHeader, IsSheet}
use Rattle.sheet_promises.specs.Faults.{Refused, no_header, count, notes}
use Rattle.sheet_promises.proofs.Standing.{behind}
use Rattle.sheet_promises.proofs.Lines.{header_read, header_stands}
use Rattle.sheet_promises.proofs.Notes.{all_good_lem, entries_read, first_bad, first_refused, good_or_bad}

-- a header that the text begins with, and the lines behind it
module _ (text front rest : List ℕ) (at n : ℕ) (h : IsHeader front n) (cut : drop at text ≡ front ++ rest) where
  read : good_field n (at + length front) ≡ header_line text at edition1
  read = sym (header_read text front rest at n h cut)

  pub lines_behind : drop (at + length front) text ≡ rest
  lines_behind = behind text front rest at cut

  pub bad_count : count_rule n ≡ false → judged text at ≡ verdict_at count_or_note 1
  bad_count bad =
      sym (header_decides text at (good_field n (at + length front)) count_or_note read
      (sym (header_bad (good_field n (at + length front)) refl bad)) (λ e. omega arith))

  pub count_passes : count_rule n ≡ true → judged text at ≡ judged_notes n text (at + length front) 2 0
  count_passes good =
      notes_decide text at (good_field n (at + length front)) accepted read (sym (header_good (good_field n (at + length front)) refl good)) refl

-- a sheet is accepted, and its entries are those that are read
pub sheet_accepted : (text : List ℕ) (at : ℕ) (es : List Entry) → IsSheet (drop at text) es → judged text at ≡ verdict_at accepted 0
sheet_accepted text at es s =
    count_passes text s.header s.lines at (length es) s.is_header s.whole s.count_rule_lem
    ∙ all_good_lem text s.lines es (at + length s.header) 2 0 s.are_lines s.obeyed (lines_behind text s.header s.lines at (length es) s.is_header s.whole)

pub sheet_entries : (text : List ℕ) (at : ℕ) (es : List Entry) → IsSheet (drop at text) es
    → entries_at (header_line text at edition1).value text (header_line text at edition1).stop.at ≡ es
sheet_entries text at es s =
    rw (← read text s.header s.lines at (length es) s.is_header s.whole)
    (entries_read text s.lines es (at + length s.header) s.are_lines (lines_behind text s.header s.lines at (length es) s.is_header s.whole))

-- a text with a first bad line is refused by it
pub bad_refused : (text : List ℕ) (at number line : ℕ) → Refused (drop at text) number line → judged text at ≡ verdict_at number line
bad_refused text at number line (no_header none) =
    sym (header_decides text at (header_line text at edition1) form refl
    (sym (header_ill (header_line text at edition1) (never _ (λ well. let s = header_stands text at well in none s.piece _ _ s.is_header s.part.cut)))) (λ e. omega arith))
bad_refused text at number line (count front rest n h cut bad) = bad_count text front rest at n h cut bad
bad_refused text at number line (notes front rest n h cut good b) =
    count_passes text front rest at n h cut good
    ∙ first_bad text rest (at + length front) 2 n 0 number line b (lines_behind text front rest at n h cut)

pub never_accepted : (text : List ℕ) (number line : ℕ) → Refused text number line → number ≡ accepted → ⊥
never_accepted text number line (no_header none) h = omega arith
never_accepted text number line (count front rest n i cut bad) h = omega arith
never_accepted text number line (notes front rest n i cut good b) h = first_refused b h

-- and every text is one or the other
abbrev pub Answered : (text : List ℕ) (at : ℕ) → Type 0
Answered text at = ((es : List Entry) × IsSheet (drop at text) es) ⊎ Refused (drop at text) (judged text at).number (judged text at).line

module _ (text : List ℕ) (at : ℕ) where
  refuse : (number line : ℕ) → Refused (drop at text) number line → Answered text at
  unfolding verdict_at
  refuse number line r = inr (rw (bad_refused text at number line r) r)

  unread : is_good (header_line text at edition1).stop ≡ false → Answered text at
  unread ill =
      refuse form 1 (no_header (λ front rest n h cut. not_both _ ill (ap (λ (f : Field). is_good f.stop) (header_read text front rest at n h cut))))

  module _ (well : is_good (header_line text at edition1).stop ≡ true) where
    uncounted : count_rule (header_line text at edition1).value ≡ false → Answered text at
    uncounted bad =
        let s = header_stands text at well in
        refuse count_or_note 1 (count s.piece _ _ s.is_header s.part.cut bad)

    counted : count_rule (header_line text at edition1).value ≡ true → Answered text at
    counted good =
        let s = header_stands text at well in
        ⊎_elim
        (λ g.
        inl (
          g.entries,
          record {
            header = s.piece;
            lines = drop (header_line text at edition1).stop.at text;
            is_header = rw g.as_many s.is_header;
            count_rule_lem = rw g.as_many good;
            are_lines = g.are_lines;
            obeyed = g.obeyed;
            whole = s.part.cut;
          },
        ))
        (λ b. refuse _ _ (notes s.piece _ _ s.is_header s.part.cut good b))
        (good_or_bad (header_line text at edition1).value text (header_line text at edition1).stop.at 2 0)

  pub sheet_or_refused : Answered text at
  sheet_or_refused =
      ⊎_elim
      (λ well. ⊎_elim (counted well) (uncounted well) (either (count_rule (header_line text at edition1).value)))
      unread
      (either (is_good (header_line text at edition1).stop))
