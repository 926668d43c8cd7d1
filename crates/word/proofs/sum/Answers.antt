use Rattle.std.proofs.Common.{rules}
use Rattle.word.specs.Rotation.{◌⊞◌}
use Rattle.word.proofs.sum.Goals as goal

pub returns : goal.returns
unfolding ◌⊞◌
returns c = search rules
