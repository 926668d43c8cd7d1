-- What reading a sheet answers and leaves, by the grammar. Assumes nothing.
use Prim.Native.Nat.{ℕ}
use mathlib.Core.Path.{◌≡◌, refl, sym, ap, ◌∙◌, subst}
use mathlib.Core.Logic.{◌↔◌, ⊎_elim}
use mathlib.Core.List.{List, []}
use borrow.Author.Tests.{eqb-true, eqb-false}
use lib.Dec.{eqb}
use Rattle.truth.proofs.Tests.{either}
use Rattle.refusal.specs.Table.{accepted}
use Rattle.session.specs.declared.Session.{Session}
use Rattle.sheet.specs.Judging.{sheet_of}
use Rattle.sheet.specs.declared.Verdict.{Verdict}
use Rattle.sheet.specs.declared.Sheet.{Sheet}
use Rattle.sheet_promises.specs.Promises.{SheetRow, is_read, is_refused}
use Rattle.sheet_promises.proofs.Proved.{proved as sheets}

module _ (text : List ℕ) where
  abbrev Answers : Verdict → Session → Type 0
  Answers v s = (v ≡ (sheet_of text).verdict) × (s ≡ (sheet_of text).session)

  row_holds : {v : Verdict} {s : Session} → SheetRow text v s → Answers v s
  row_holds (is_read {s} es sheet lists) = (
    sym (sheets.from_start text ∙ (sheets.judges text 0).1 (es, sheet)),
    sheets.one_session s (sheet_of text).session es lists (sheets.lists text es sheet),
  )
  row_holds (is_refused {s} number line bad lists) =
      let (verdict, not_0) = (sheets.refuses text number line).1 bad in
      (sym verdict, sheets.one_session s (sheet_of text).session [] lists (sheets.refused text (rw verdict not_0)))

  -- the sheet's own answer is a row
  own_row : SheetRow text (sheet_of text).verdict (sheet_of text).session
  own_row =
      ⊎_elim
      (λ good.
      let (es, sheet) = (sheets.accepts text).0 (eqb-true _ _ good) in
      subst (λ (v : Verdict). SheetRow text v (sheet_of text).session) (sym (sheets.from_start text ∙ (sheets.judges text 0).1 (es, sheet))) (is_read es sheet (sheets.lists text es sheet)))
      (λ bad. is_refused _ _ ((sheets.refuses text _ _).0 (refl, eqb-false _ _ bad)) (sheets.refused text (eqb-false _ _ bad)))
      (either (eqb (sheet_of text).verdict.number accepted))

  holds_row : {v : Verdict} {s : Session} → Answers v s → SheetRow text v s
  holds_row (ev, es) = rw (ev, es) own_row

  pub reads : (v : Verdict) (s : Session) → Answers v s ↔ SheetRow text v s
  reads v s = (holds_row, row_holds)

  -- both in one answer
  pub reads_whole : (r : Sheet) → (r ≡ sheet_of text) ↔ SheetRow text r.verdict r.session
  reads_whole r = (
    λ e. holds_row (ap (λ (x : Sheet). x.verdict) e, ap (λ (x : Sheet). x.session) e),
    λ row. let (v, s) = row_holds row in λ i. record { verdict = v i; session = s i },
  )
