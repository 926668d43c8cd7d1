-- `matches` holds what `finish` answers against what is expected. Assumes nothing.
use borrow.Author.Rules.{rules}
use Rattle.mac.specs.Codes.{compare_state}
use Rattle.mac.proofs.Code.matches.Goals as goal

pub returns : goal.returns
unfolding compare_state
returns c = search rules
