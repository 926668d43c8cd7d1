use Rattle.standard.proofs.Rounds.{round_made}
use borrow.Author.Rules.{rules}
use Rattle.standard.proofs.round.Goals as goal

pub returns : goal.returns
returns c = search (round_made, rules)
