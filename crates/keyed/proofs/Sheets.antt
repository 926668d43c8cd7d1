-- Reading what the MAC line covers gives the keyed sheet's answer, also where that is nothing. Assumes nothing.
use Prim.Native.Nat.{ℕ}
use mathlib.Core.Path.{◌≡◌, refl, sym, ap, ◌∙◌}
use mathlib.Core.Logic.{⊎_elim}
use mathlib.Core.List.{List, []}
use borrow.Author.Tests.{eqb-true, eqb-false}
use lib.Dec.{eqb}
use Rattle.truth.proofs.Tests.{either}
use Rattle.refusal.specs.Table.{accepted}
use Rattle.lines.specs.Reading.{has_at, mark_after, word_at, word_after}
use Rattle.lines.specs.Fields.{field_after}
use Rattle.lines.specs.Lines.{header_line}
use Rattle.session.specs.Sessions.{empty_session}
use Rattle.session.specs.declared.Session.{Session}
use Rattle.sheet.specs.Judging.{header_number, verdict_at, judged, sheet_of}
use Rattle.sheet.specs.declared.Sheet.{Sheet}
use Rattle.sheet.specs.declared.Verdict.{Verdict}
use Rattle.keyed.specs.Keyed.{mac_number, covered, keyed_verdict, keyed_of}
use Rattle.keyed.proofs.Judging.{covered_none, verdict_refused, verdict_passed, keyed_refused, keyed_read}

-- the empty text has no line 1, so it lists no note
pub nothing_listed : (sheet_of []).session ≡ empty_session
unfolding sheet_of judged header_number header_line word_after word_at mark_after field_after has_at verdict_at
nothing_listed = refl

module _ (key text : List ℕ) where
  abbrev number : ℕ
  number = mac_number key text

  -- the MAC line is accepted or refused
  by_number : {P : Type 0} → (number ≡ accepted → P) → ((number ≡ accepted → ⊥) → P) → P
  by_number fits other = ⊎_elim (λ t. fits (eqb-true _ _ t)) (λ f. other (eqb-false _ _ f)) (either (eqb number accepted))

  -- the keyed sheet's parts, from those of what is covered: a refused MAC line covers nothing
  pub covered_session : (keyed_of key text).session ≡ (sheet_of (covered text (mac_number key text))).session
  covered_session = by_number (λ fits. rw (keyed_read key text fits, fits)) (λ other. rw (keyed_refused key text other, covered_none text number other) (sym nothing_listed))

  pub covered_verdict : (keyed_of key text).verdict ≡ keyed_verdict (mac_number key text) (sheet_of (covered text (mac_number key text))).verdict
  covered_verdict =
      let v : Verdict = (sheet_of (covered text number)).verdict in
      by_number (λ fits. rw (keyed_read key text fits, verdict_passed number v fits, fits)) (λ other. rw (keyed_refused key text other, verdict_refused number v other))

  -- as the code does it
  pub answered : (n : ℕ) (bytes : List ℕ) (v w : Verdict) (s : Session) → n ≡ mac_number key text → bytes ≡ covered text n
      → (v ≡ (sheet_of bytes).verdict) × (s ≡ (sheet_of bytes).session) → w ≡ keyed_verdict n v
      → (w ≡ (keyed_of key text).verdict) × (s ≡ (keyed_of key text).session)
  answered n bytes v w s en eb es ew = (ew ∙ rw (es.0, eb, en) (sym covered_verdict), es.1 ∙ rw (eb, en) (sym covered_session))

  pub answered_whole : (n : ℕ) (bytes : List ℕ) (v w : Verdict) (s : Session) → n ≡ mac_number key text → bytes ≡ covered text n
      → record { verdict = v; session = s } ≡ sheet_of bytes → w ≡ keyed_verdict n v → record { verdict = w; session = s } ≡ keyed_of key text
  answered_whole n bytes v w s en eb es ew =
      let both = answered n bytes v w s en eb (ap (λ (x : Sheet). x.verdict) es, ap (λ (x : Sheet). x.session) es) ew in
      λ i. record { verdict = both.0 i; session = both.1 i }
