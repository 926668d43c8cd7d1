use mathlib.Core.Path.{◌≡◌}
use lib.ListN.{take}
use Rattle.standard.specs.Standard.{split}
use Rattle.folding.proofs.Ring.new.Given as goal

abbrev pub invariant-loop-j : goal.invariant-loop-j
invariant-loop-j l = take l.j l.word-items ≡ split l.j l.block
