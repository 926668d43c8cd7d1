use Rattle.std.proofs.Common.{rules}
use Rattle.standard.specs.Standard.{P0}
use Rattle.standard.proofs.p0.Goals as goal

pub returns : goal.returns
unfolding P0
returns c = search rules
