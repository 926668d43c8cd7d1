-- `matches` holds what `digest_of` answers against what is expected. Assumes nothing.
use borrow.Author.Rules.{rules}
use Rattle.hash.specs.Digests.{compare_message}
use Rattle.hash.proofs.matches.Goals as goal

pub returns : goal.returns
unfolding compare_message
returns c = search rules
