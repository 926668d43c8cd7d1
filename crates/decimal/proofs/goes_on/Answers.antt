-- `goes_on` is the definition's test, step by step. Assumes nothing.
use mathlib.Core.Path.{sym, ◌∙◌}
use borrow.Author.Tests.{lt-leb}
use Rattle.truth.proofs.Tests.{refuted, confirmed}
use Rattle.decimal.specs.Reading.{is_figure}
use Rattle.decimal.proofs.Steps.{goes_not, goes_zero, goes_by}
use Rattle.decimal.proofs.goes_on.Goals as goal

pub returns-then-not-is_ascii_digit : goal.returns-then-not-is_ascii_digit
unfolding is_figure
returns-then-not-is_ascii_digit c = sym (goes_not _ _ (refuted c.is_ascii_digit.ensures.value c.if-not-is_ascii_digit.true))

pub returns-then-value-ge1 : goal.returns-then-value-ge1
unfolding is_figure
returns-then-value-ge1 c = sym (goes_by _ _ (confirmed c.is_ascii_digit.ensures.value c.if-not-is_ascii_digit.false) c.if-value-ge1.true)

pub returns-else-value-ge1 : goal.returns-else-value-ge1
unfolding is_figure
returns-else-value-ge1 c =
    lt-leb _ _ c.if-value-ge1.false
    ∙ sym (goes_zero _ _ (confirmed c.is_ascii_digit.ensures.value c.if-not-is_ascii_digit.false) c.if-value-ge1.false)
