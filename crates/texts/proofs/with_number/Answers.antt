-- `with_number` puts a number's figures behind a text. Assumes nothing.
use mathlib.Core.Path.{ap, ◌∙◌}
use borrow.Author.Rules.{rules}
use Rattle.decimal.proofs.Laying.{from_within, long_twenty, last_figures}
use Rattle.texts.specs.Texts.{with_part}
use Rattle.texts.proofs.with_number.Goals as goal

pub slice_bounds-with-start : goal.slice_bounds-with-start
slice_bounds-with-start c =
    let f = c.figures_of-figures in
    let h = from_within _ (search rules) f.result f.ensures in
    search rules

pub slice_bounds-with-count : goal.slice_bounds-with-count
slice_bounds-with-count c =
    let f = c.figures_of-figures in
    rw (long_twenty _ (search rules) f.result f.ensures) (from_within _ (search rules) f.result f.ensures)

pub returns : goal.returns
returns c =
    let f = c.figures_of-figures in
    c.with.ensures ∙ ap (with_part _) (last_figures _ (search rules) f.result f.ensures)
