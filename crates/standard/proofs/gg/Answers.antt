use borrow.Author.Tests.{lt-ltb, le-ltb}
use borrow.Author.Rules.{rules}
use Rattle.standard.specs.Standard.{GG}
use Rattle.standard.proofs.Choice.{chosen}
use Rattle.standard.proofs.gg.Goals as goal

pub returns-then-j-lt16 : goal.returns-then-j-lt16
unfolding GG
returns-then-j-lt16 c = rw (lt-ltb c.args.j 16 (search rules))

pub returns-else-j-lt16 : goal.returns-else-j-lt16
unfolding GG
returns-else-j-lt16 c =
    rw (le-ltb c.args.j 16 (search rules))
    (chosen 32 c.args.x c.args.y c.args.z (search rules) (search rules) (search rules))
