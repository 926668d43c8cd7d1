use mathlib.Core.Path.{◌≡◌}
use lib.ListN.{length}
use Rattle.standard.specs.Standard.{folded}
use Rattle.folding.proofs.fold.Given as goal

abbrev pub invariant-loop-block : goal.invariant-loop-block
invariant-loop-block l = folded l.initial.r l.bytes ≡ folded l.r l.rest

abbrev pub decreases-loop-block : goal.decreases-loop-block
decreases-loop-block l = length l.rest
