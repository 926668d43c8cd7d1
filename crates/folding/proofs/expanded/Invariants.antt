use mathlib.Core.Path.{◌≡◌}
use lib.ListN.{take}
use Rattle.standard.specs.Standard.{expansion}
use Rattle.folding.specs.Ring.{Ring}
use Rattle.folding.proofs.expanded.Given as goal

abbrev pub invariant-loop-j : goal.invariant-loop-j
invariant-loop-j l = Ring l.block l.j l.ring.words × (take l.j l.word-items ≡ take l.j (expansion l.block))
