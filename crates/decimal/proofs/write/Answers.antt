-- `write` copies the figures. Assumes nothing.
use mathlib.Core.Path.{ap, ◌∙◌}
use borrow.Author.Rules.{rules}
use Rattle.buffers.specs.Copy.{copied}
use Rattle.decimal.proofs.Laying.{from_within, long_twenty, so_many, last_figures}
use Rattle.decimal.proofs.write.Goals as goal

pub slice_bounds-copy-start : goal.slice_bounds-copy-start
slice_bounds-copy-start c =
    let f = c.figures_of-figures in
    let h = from_within _ (search rules) f.result f.ensures in
    search rules

pub slice_bounds-copy-count : goal.slice_bounds-copy-count
slice_bounds-copy-count c =
    let f = c.figures_of-figures in
    rw (long_twenty _ (search rules) f.result f.ensures) (from_within _ (search rules) f.result f.ensures)

pub overflow_sub-result : goal.overflow_sub-result
overflow_sub-result c =
    let f = c.figures_of-figures in
    from_within _ (search rules) f.result f.ensures

pub returns : goal.returns
returns c =
    let f = c.figures_of-figures in (
      so_many _ (search rules) f.result f.ensures,
      c.copy.ensures ∙ ap (copied c.args.dst.now c.args.at) (last_figures _ (search rules) f.result f.ensures),
    )
