use Rattle.word.proofs.BigEndian.{high_first}
use Rattle.word.proofs.eight_bytes_of.Goals as goal

pub returns : goal.returns
returns c = cc (high_first 8 c.args.n)
