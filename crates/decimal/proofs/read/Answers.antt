-- `read` reads a number. The invariant: the number is the one that goes on from the next reached with the value reached.
-- Assumes nothing.
use mathlib.Core.Path.{ap, sym, ◌∙◌}
use native.Mathlib.Omega.{arith}
use borrow.Author.Rules.{rules}
use Rattle.std.specs.Prelude.{Some}
use Rattle.truth.proofs.Tests.{refuted, confirmed}
use Rattle.decimal.specs.Reading.{is_figure}
use Rattle.decimal.proofs.Steps.{figure_from, goes_figure, goes_fits, number_past, number_not, number_begins, goes_more, goes_stop, goes_end}
use Rattle.decimal.proofs.read.Goals as goal

pub returns-then-text-at : goal.returns-then-text-at
returns-then-text-at c = sym (number_past _ _ c.if-text-at.true)

pub returns-then-not-is_ascii_digit : goal.returns-then-not-is_ascii_digit
unfolding is_figure
returns-then-not-is_ascii_digit c =
    sym (number_not _ _ c.if-text-at.false (refuted c.is_ascii_digit.ensures.value c.if-not-is_ascii_digit.true))

pub loop-byte-init : goal.loop-byte-init
unfolding is_figure
loop-byte-init c = (
  search rules,
  number_begins _ _ c.if-text-at.false (confirmed c.is_ascii_digit.ensures.value c.if-not-is_ascii_digit.false),
)

pub overflow_mul-value : goal.overflow_mul-value
overflow_mul-value c = omega (arith, goes_fits _ _ (confirmed c.goes_on.ensures c.if-not-goes_on.false))

pub overflow_sub-value-in-loop-byte : goal.overflow_sub-value-in-loop-byte
overflow_sub-value-in-loop-byte c = figure_from _ (goes_figure _ _ (confirmed c.goes_on.ensures c.if-not-goes_on.false))

pub overflow_add-value : goal.overflow_add-value
overflow_add-value c = omega (arith, goes_fits _ _ (confirmed c.goes_on.ensures c.if-not-goes_on.false))

pub loop-byte-preserved : goal.loop-byte-preserved
loop-byte-preserved c = (
  search rules,
  c.loop-byte.invariant.1 ∙ ap Some (goes_more _ _ _ _ c.loop-byte-test.true (confirmed c.goes_on.ensures c.if-not-goes_on.false)),
)

pub returns-after-loop-byte : goal.returns-after-loop-byte
returns-after-loop-byte c = sym (c.loop-byte.invariant.1 ∙ ap Some (goes_end _ _ _ _ c.loop-byte-test.false))

pub returns-then-not-goes_on : goal.returns-then-not-goes_on
returns-then-not-goes_on c =
    sym (c.loop-byte.invariant.1 ∙ ap Some (goes_stop _ _ _ _ c.loop-byte-test.true (refuted c.goes_on.ensures c.if-not-goes_on.true)))
