-- `figures_of` lays the figures, the last one first. Assumes nothing.
use borrow.Author.Rules.{rules}
use Rattle.decimal.proofs.Laying.{laid_first, laid_next, laid_all}
use Rattle.decimal.proofs.figures_of.Goals as goal

pub loop-left-init : goal.loop-left-init
loop-left-init c = laid_first c.args.n (search rules)

pub loop-left-preserved : goal.loop-left-preserved
loop-left-preserved c = laid_next _ _ _ _ c.loop-left.invariant (search rules)

pub returns : goal.returns
returns c = laid_all _ _ _ _ c.loop-left.invariant (search rules)
