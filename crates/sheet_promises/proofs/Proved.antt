-- The crate's promises, proved. Assumes nothing.
use Prim.Native.Nat.{ℕ}
use mathlib.Core.Path.{◌≡◌, refl, sym, ap, ◌∙◌}
use mathlib.Core.List.{List}
use mathlib.Core.Logic.{◌↔◌, ⊎_elim}
use borrow.Author.Tests.{eq-eqb, ne_eqb}
use lib.ListN.{length, drop}
use Rattle.refusal.specs.Table.{accepted}
use Rattle.session.specs.Sessions.{empty_session}
use Rattle.sheet.specs.Judging.{verdict_at, judged, with_notes, session_of, sheet_of}
use Rattle.lines.specs.declared.Entry.{Entry}
use Rattle.sheet.specs.declared.Verdict.{Verdict}
use Rattle.sheet_promises.specs.Grammar.{IsSheet}
use Rattle.sheet_promises.specs.Faults.{Refused}
use Rattle.sheet_promises.specs.Promises.{Promises, Lists}
use Rattle.sheet_promises.proofs.Sheets.{sheet_accepted, sheet_entries, bad_refused, never_accepted, sheet_or_refused}
use Rattle.sheet_promises.proofs.Lines.{header_read, line_read}
use Rattle.sheet_promises.proofs.Following.{text_after_lem}
use Rattle.sheet_promises.proofs.Listing.{lists_entries, lists_none, one_session}
use Rattle.sheet_promises.proofs.Sizes.{sheet_size_lem}
use Rattle.sheet_promises.proofs.Digests.{digest_is}

-- what is judged is the answer's verdict
verdict_is : (text : List ℕ) → (sheet_of text).verdict ≡ judged text 0
unfolding sheet_of
verdict_is text = refl

-- the verdict of the sheet that begins at a place, and of what is none there
module _ (text : List ℕ) (at : ℕ) where
  sheet_verdict : (es : List Entry) → IsSheet (drop at text) es → judged text at ≡ record { number = accepted; line = 0 }
  unfolding verdict_at
  sheet_verdict es s = sheet_accepted text at es s

  sheet_number : (es : List Entry) → IsSheet (drop at text) es → (judged text at).number ≡ accepted
  sheet_number es s = ap (λ (v : Verdict). v.number) (sheet_verdict es s)

  is_sheet : (judged text at).number ≡ accepted → (es : List Entry) × IsSheet (drop at text) es
  is_sheet good = ⊎_elim (λ s. s) (λ r. absurd (never_accepted (drop at text) _ _ r good)) (sheet_or_refused text at)

  is_refused : (number line : ℕ) → judged text at ≡ record { number = number; line = line } → (number ≡ accepted → ⊥) → Refused (drop at text) number line
  is_refused number line e bad =
      ⊎_elim (λ s. absurd (bad (sym (ap (λ (v : Verdict). v.number) e) ∙ sheet_number s.0 s.1))) (λ r. rw e at r) (sheet_or_refused text at)

  refusals : (number line : ℕ) → ((judged text at ≡ record { number = number; line = line }) × (number ≡ accepted → ⊥)) ↔ Refused (drop at text) number line
  unfolding verdict_at
  refusals number line = (
    λ h. is_refused number line h.0 h.1,
    λ r. (bad_refused text at number line r, never_accepted (drop at text) number line r),
  )

-- the session of a sheet, and of a refused text
good_session : (text : List ℕ) → (judged text 0).number ≡ accepted → (sheet_of text).session ≡ session_of text
unfolding sheet_of
good_session text good = simp (eq-eqb (judged text 0).number accepted good)

bad_session : (text : List ℕ) → ((judged text 0).number ≡ accepted → ⊥) → (sheet_of text).session ≡ empty_session
unfolding sheet_of
bad_session text bad = simp (ne_eqb (judged text 0).number accepted bad)

pub sheet_session : (text : List ℕ) (es : List Entry) → IsSheet text es
    → (sheet_of text).session ≡ record { slots = (with_notes empty_session es).slots; listed = length es; opened = 0 }
unfolding session_of
sheet_session text es s = rw (good_session text (sheet_number text 0 es s), sheet_entries text 0 es s)

lists_lines : (text : List ℕ) (es : List Entry) → IsSheet text es → Lists (sheet_of text).session es
lists_lines text es s = rw (sheet_session text es s) (lists_entries es s.obeyed)

pub proved : Promises
unfolding sheet_of verdict_at
proved =
    record {
      accepts = λ text. (is_sheet text 0, λ s. sheet_number text 0 s.0 s.1);
      line = λ text good. let s = is_sheet text 0 good in ap (λ (v : Verdict). v.line) (sheet_verdict text 0 s.0 s.1);
      lists = lists_lines;
      one_session = one_session;
      refuses = λ text. refusals text 0;
      text_follows = text_after_lem;
      refused = λ text bad. rw (bad_session text bad) lists_none;
      size = sheet_size_lem;
      from_start = verdict_is;
      judges = λ text at. (λ e. is_sheet text at (ap (λ (v : Verdict). v.number) e), λ s. sheet_verdict text at s.0 s.1);
      judges_bad = refusals;
      reads_header = header_read;
      reads_line = line_read;
      entries = λ text es s. sym (sheet_entries text 0 es s);
      one_reading = λ text es others s t. sym (sheet_entries text 0 es s) ∙ sheet_entries text 0 others t;
      is_digest = digest_is;
      parts = λ text es s. (s.is_header, s.are_lines, s.whole);
    }
