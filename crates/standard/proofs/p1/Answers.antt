use Rattle.std.proofs.Common.{rules}
use Rattle.standard.specs.Standard.{P1}
use Rattle.standard.proofs.p1.Goals as goal

pub returns : goal.returns
unfolding P1
returns c = search rules
