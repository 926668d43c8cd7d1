use Rattle.word.proofs.BigEndian.{high_first}
use Rattle.word.proofs.bytes_of.Goals as goal

pub returns : goal.returns
returns c = cc (high_first 4 c.args.w)
