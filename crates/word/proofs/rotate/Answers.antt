use Rattle.std.proofs.Common.{rules}
use Rattle.word.proofs.Rotation.{shifts_rotate}
use Rattle.word.proofs.rotate.Goals as goal

pub returns : goal.returns
returns c = cc (shifts_rotate c.args.x c.args.k (search rules))
