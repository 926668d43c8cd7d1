-- `figures_of` lays the figures, the last one first. Assumes nothing.
use Rattle.decimal.proofs.Laying.{Laid}
use Rattle.decimal.proofs.figures_of.Given as goal

abbrev pub invariant-loop-left : goal.invariant-loop-left
invariant-loop-left l = Laid l.n l.bytes l.from l.left

abbrev pub decreases-loop-left : goal.decreases-loop-left
decreases-loop-left l = l.left
