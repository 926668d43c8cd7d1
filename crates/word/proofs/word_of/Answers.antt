use Rattle.std.proofs.Common.{arith}
use Rattle.word.specs.BigEndian.{number_from, number_of}
use Rattle.word.proofs.word_of.Goals as goal

pub returns : goal.returns
unfolding number_from number_of
returns c = omega arith
