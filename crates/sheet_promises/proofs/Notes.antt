-- Note lines in order: what is judged of them, and what is wrong with the first bad one. Assumes nothing.
use Prim.Native.Nat.{ℕ, zero, suc, ◌+◌}
use mathlib.Core.Path.{◌≡◌, refl, sym, ap, ◌∙◌}
use mathlib.Core.List.{List, [], ◌∷◌, ◌++◌}
use mathlib.Core.Bool.{true, false}
use mathlib.Core.Logic.{◌⊎◌, inl, inr, ⊎_elim, ⊎_map}
use native.Mathlib.Omega.{arith}
use lib.ListN.{length, drop, length-drop, drop_of_length-le}
use lib.Seq.{drop-cons}
use Rattle.refusal.specs.Table.{accepted, form}
use Rattle.lines.specs.Reading.{is_good}
use Rattle.lines.specs.declared.NoteLine.{NoteLine}
use Rattle.lines.specs.Lines.{good_line, note_line}
use Rattle.sheet.specs.Judging.{entry_number, note_number, verdict_at, judged_notes, entries_at}
use Rattle.lines.specs.declared.Entry.{Entry}
use Rattle.truth.proofs.Tests.{either, below_or_not, never, not_both}
use Rattle.sheet.proofs.Verdicts.{line_ill, line_well, this_decides, rest_decides, text_follows, nothing_follows}
use Rattle.sheet_promises.specs.Grammar.{IsLine, Lines, no_line, line, ObeysRules, AllObey, no_entry_lem, entry}
use Rattle.sheet_promises.specs.Faults.{Breaks, BadLine, ill_formed, breaks, FirstBad, here, later, follows}
use Rattle.sheet_promises.proofs.Standing.{behind, stands_below}
use Rattle.sheet_promises.proofs.Lines.{line_read, line_stands}
use Rattle.sheet_promises.proofs.Rules.{obeys_number, breaks_number, breaks_refused, obeys_or_breaks}

-- a line that stands at a place is judged by its entry
pub entry_judged : (text piece rest : List ℕ) (at last : ℕ) (e : Entry) → IsLine piece e → drop at text ≡ piece ++ rest
    → note_number last (good_line e (at + length piece)) ≡ entry_number last e
entry_judged text piece rest at last e l stands = line_well last (good_line e (at + length piece)) refl

-- a good line, and then the others
module _ (text piece rest : List ℕ) (notes at number last : ℕ) (e : Entry) (l : IsLine piece e) (stands : drop at text ≡ piece ++ rest) (o : ObeysRules last e) where
  pub good_line_lem : judged_notes (suc notes) text at number last ≡ judged_notes notes text (at + length piece) (number + 1) e.note
  good_line_lem =
      rest_decides text notes at number last (good_line e (at + length piece)) (sym (line_read text piece rest at e l stands)) accepted
      (sym (entry_judged text piece rest at last e l stands ∙ obeys_number last e o)) refl

-- lines that obey the rules, and nothing behind them
pub all_good_lem : (text s : List ℕ) (es : List Entry) (at number last : ℕ) → Lines s es → AllObey last es → drop at text ≡ s
    → judged_notes (length es) text at number last ≡ verdict_at accepted 0
all_good_lem text s es at number last no_line no_entry_lem stands =
    nothing_follows text at number last (omega (arith, ap length stands, length-drop at text))
all_good_lem text s es at number last (line {text = piece} {rest = rest} {e = e} {es = more} l ls) (entry o os) stands =
    good_line_lem text piece rest (length more) at number last e l stands o
    ∙ all_good_lem text rest more (at + length piece) (number + 1) e.note ls os (behind text piece rest at stands)

-- their entries are those that are read
pub entries_read : (text s : List ℕ) (es : List Entry) (at : ℕ) → Lines s es → drop at text ≡ s → entries_at (length es) text at ≡ es
unfolding entries_at
entries_read text s es at no_line stands = refl
entries_read text s es at (line {text = piece} {rest = rest} {e = e} {es = more} l ls) stands =
    rw (line_read text piece rest at e l stands)
    (ap (λ (r : List Entry). e ∷ r) (entries_read text rest more (at + length piece) ls (behind text piece rest at stands)))

-- a bad line has its number
pub bad_number : (text s : List ℕ) (at last number : ℕ) → BadLine last s number → drop at text ≡ s → note_number last (note_line text at) ≡ number
bad_number text s at last number (ill_formed none) stands =
    line_ill last (note_line text at)
    (never _ (λ well. let w = line_stands text at well in none w.piece _ _ w.is_line (sym stands ∙ w.part.cut)))
bad_number text s at last number (breaks piece rest e l cut b) stands =
    ap (note_number last) (line_read text piece rest at e l (stands ∙ cut))
    ∙ entry_judged text piece rest at last e l (stands ∙ cut)
    ∙ breaks_number last e number b

bad_refused : (last : ℕ) (s : List ℕ) (number : ℕ) → BadLine last s number → number ≡ accepted → ⊥
bad_refused last s number (ill_formed none) h = omega arith
bad_refused last s number (breaks piece rest e l cut b) h = breaks_refused last e number b h

-- the first bad line decides
pub first_bad : (text s : List ℕ) (at now notes last number bad : ℕ) → FirstBad now notes last s number bad → drop at text ≡ s
    → judged_notes notes text at now last ≡ verdict_at number bad
first_bad text s at now notes last number bad (here {notes = more} b) stands =
    this_decides text more at now last (note_line text at) refl number (sym (bad_number text s at last number b stands)) (bad_refused last s number b)
first_bad text s at now notes last number bad (later {notes = more} {front = piece} {rest = rest} {e = e} l cut o next) stands =
    good_line_lem text piece rest more at now last e l (stands ∙ cut) o
    ∙ first_bad text rest (at + length piece) (now + 1) more e.note number bad next (behind text piece rest at (stands ∙ cut))
first_bad text s at now notes last number bad (follows {byte = byte} {rest = rest}) stands = text_follows text at now last (stands_below text rest at byte stands)

-- the number of a bad line is no accepted one
pub first_refused : {now notes last number bad : ℕ} {s : List ℕ} → FirstBad now notes last s number bad → number ≡ accepted → ⊥
first_refused (here {last = last} {number = number} {text = s} b) h = bad_refused last s number b h
first_refused (later l cut o next) h = first_refused next h
first_refused follows h = omega arith

-- note lines that stand at a place: all are good, or the first bad one decides
pub record GoodLines (notes : ℕ) (text : List ℕ) (at last : ℕ) : Type 0 where
  pub entries : List Entry
  pub are_lines : Lines (drop at text) entries
  pub as_many : length entries ≡ notes
  pub obeyed : AllObey last entries

abbrev pub BadLines : (notes : ℕ) (text : List ℕ) (at now last : ℕ) → Type 0
BadLines notes text at now last =
    FirstBad now notes last (drop at text) (judged_notes notes text at now last).number (judged_notes notes text at now last).line

-- a verdict that is known
verdict : (notes : ℕ) (text : List ℕ) (at now last number bad : ℕ) → judged_notes notes text at now last ≡ verdict_at number bad
    → FirstBad now notes last (drop at text) number bad → BadLines notes text at now last
unfolding verdict_at
verdict notes text at now last number bad e b = rw e b

-- no line stands where none is read
unread : (text : List ℕ) (at : ℕ) → is_good (note_line text at).stop ≡ false → (front rest : List ℕ) (e : Entry) → IsLine front e → drop at text ≡ front ++ rest → ⊥
unread text at ill front rest e l cut = not_both _ ill (ap (λ (r : NoteLine). is_good r.stop) (line_read text front rest at e l cut))

-- the line at a place, with what is known of those behind it
module _ (notes : ℕ) (text : List ℕ) (at now last : ℕ) where
  ill : is_good (note_line text at).stop ≡ false → BadLines (suc notes) text at now last
  ill bad =
      verdict (suc notes) text at now last form now
      (this_decides text notes at now last (note_line text at) refl form (sym (line_ill last (note_line text at) bad)) (λ h. omega arith))
      (here (ill_formed (unread text at bad)))

  module _ (w : is_good (note_line text at).stop ≡ true) where
    number : note_number last (note_line text at) ≡ entry_number last (note_line text at).entry
    number = line_well last (note_line text at) w

    broken : Breaks last (note_line text at).entry (entry_number last (note_line text at).entry) → BadLines (suc notes) text at now last
    broken b =
        let s = line_stands text at w in
        verdict (suc notes) text at now last _ now
        (this_decides text notes at now last (note_line text at) refl _ (sym number) (breaks_refused last _ _ b))
        (here (breaks s.piece _ _ s.is_line s.part.cut b))

    module _ (o : ObeysRules last (note_line text at).entry) where
      passed : judged_notes (suc notes) text at now last ≡ judged_notes notes text (note_line text at).stop.at (now + 1) (note_line text at).entry.note
      passed = rest_decides text notes at now last (note_line text at) refl accepted (sym (number ∙ obeys_number last _ o)) refl

      longer : GoodLines notes text (note_line text at).stop.at (note_line text at).entry.note → GoodLines (suc notes) text at last
      longer g =
          let s = line_stands text at w in
          record {
            entries = (note_line text at).entry ∷ g.entries;
            are_lines = rw s.part.cut (line s.is_line g.are_lines);
            as_many = ap suc g.as_many;
            obeyed = entry o g.obeyed;
          }

      behind_it : BadLines notes text (note_line text at).stop.at (now + 1) (note_line text at).entry.note → BadLines (suc notes) text at now last
      behind_it b =
          let s = line_stands text at w in
          rw passed (later s.is_line s.part.cut o b)

  with_line : GoodLines notes text (note_line text at).stop.at (note_line text at).entry.note
      ⊎ BadLines notes text (note_line text at).stop.at (now + 1) (note_line text at).entry.note
      → GoodLines (suc notes) text at last ⊎ BadLines (suc notes) text at now last
  with_line behind =
      ⊎_elim
      (λ w. ⊎_elim (λ o. ⊎_map (longer w o) (behind_it w o) behind) (λ b. inr (broken w b)) (obeys_or_breaks last (note_line text at).entry))
      (λ w. inr (ill w))
      (either (is_good (note_line text at).stop))

pub good_or_bad : (notes : ℕ) (text : List ℕ) (at now last : ℕ) → GoodLines notes text at last ⊎ BadLines notes text at now last
good_or_bad zero text at now last =
    ⊎_elim
    (λ more. inr (verdict zero text at now last form now (text_follows text at now last more) (rw (drop-cons text at 0 more) follows)))
    (λ done. inl (record { entries = []; are_lines = rw (drop_of_length-le text {i = at} done) no_line; as_many = refl; obeyed = no_entry_lem }))
    (below_or_not at (length text))
good_or_bad (suc notes) text at now last =
    with_line notes text at now last (good_or_bad notes text (note_line text at).stop.at (now + 1) (note_line text at).entry.note)
