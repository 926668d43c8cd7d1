use Rattle.folding.proofs.Rounds.{next_made}
use borrow.Author.Rules.{rules}
use Rattle.folding.proofs.Ring.next_word.Goals as goal

pub returns : goal.returns
returns c =
    next_made _ _ _ _ _ (search rules) (search rules) c.rotate.ensures c.p1-inner.ensures c.rotate-2.ensures
