use Rattle.standard.specs.Standard.{T}
use borrow.Author.Tests.{lt-ltb, le-ltb}
use Rattle.standard.proofs.constant.Goals as goal

pub returns-then-j-lt16 : goal.returns-then-j-lt16
unfolding T
returns-then-j-lt16 c = rw (lt-ltb c.args.j 16 c.if-j-lt16.true) c.rotate.ensures

pub returns-else-j-lt16 : goal.returns-else-j-lt16
unfolding T
returns-else-j-lt16 c = rw (le-ltb c.args.j 16 c.if-j-lt16.false) c.rotate-else-j-lt16.ensures
