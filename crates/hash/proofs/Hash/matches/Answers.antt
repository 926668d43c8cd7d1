-- `matches` holds what `finish` answers against what is expected. Assumes nothing.
use borrow.Author.Rules.{rules}
use Rattle.hash.specs.Digests.{compare_state}
use Rattle.hash.proofs.Hash.matches.Goals as goal

pub returns : goal.returns
unfolding compare_state
returns c = search rules
