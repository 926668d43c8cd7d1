-- `matches` holds the one call's code against what is expected. Assumes nothing.
use borrow.Author.Rules.{rules}
use Rattle.mac.specs.Codes.{compare_message}
use Rattle.mac.proofs.matches.Goals as goal

pub returns : goal.returns
unfolding compare_message
returns c = search rules
