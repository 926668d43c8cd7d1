use Rattle.folding.proofs.Rounds.{round_gone}
use borrow.Author.Rules.{rules}
use Rattle.folding.proofs.Ring.step.Goals as goal

pub returns : goal.returns
returns c = round_gone _ _ _ _ _ (search rules) c.turn.ensures c.round.ensures
