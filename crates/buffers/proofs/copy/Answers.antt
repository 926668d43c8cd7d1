-- `copy` copies where all fits, and else leaves all alone. Assumes nothing.
use Rattle.std.proofs.Common.{arith, rules}
use Rattle.buffers.proofs.Copied.{copied_over, copied_not}
use Rattle.buffers.proofs.copy.Goals as goal

pub returns-then-at-dst : goal.returns-then-at-dst
returns-then-at-dst c = copied_over c.args.dst.now c.args.src.now _ c.args.at _ (search rules) (search rules) (search rules)

pub returns-else-src-dst : goal.returns-else-src-dst
returns-else-src-dst c = grind (arith, copied_not)
