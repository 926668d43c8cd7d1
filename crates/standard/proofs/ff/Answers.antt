use borrow.Author.Rules.{rules}
use borrow.Author.Tests.{lt-ltb, le-ltb}
use Rattle.standard.specs.Standard.{FF}
use Rattle.standard.proofs.ff.Goals as goal

pub returns-then-j-lt16 : goal.returns-then-j-lt16
unfolding FF
returns-then-j-lt16 c = rw (lt-ltb c.args.j 16 (search rules))

pub returns-else-j-lt16 : goal.returns-else-j-lt16
unfolding FF
returns-else-j-lt16 c = rw (le-ltb c.args.j 16 (search rules))
