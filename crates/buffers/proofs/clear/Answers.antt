-- `clear` puts zeros. Assumes nothing.
use Rattle.std.proofs.Common.{◌-◌, replicate, arith, rules}
use Rattle.buffers.proofs.Copied.{copied_over}
use Rattle.buffers.proofs.Zeros.{all_cleared, cleared_not}
use Rattle.buffers.proofs.clear.Goals as goal

pub returns-then-to-dst : goal.returns-then-to-dst
returns-then-to-dst c = copied_over c.args.dst.now (replicate (c.args.to - c.args.from) 0) _ c.args.from _ (search rules) (search rules) (search rules)

pub returns-else-from-to : goal.returns-else-from-to
returns-else-from-to c = grind (arith, all_cleared, cleared_not)
