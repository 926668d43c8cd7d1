use Rattle.std.proofs.Common.{rules}
use Rattle.word.proofs.Rotation.{rotations_nested}
use Rattle.standard.proofs.permuted.Goals as goal

pub returns : goal.returns
returns c = rotations_nested c.args.x 8 c.args.k _ _ (search rules) c.rotate.ensures c.rotate-2.ensures
