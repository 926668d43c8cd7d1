-- `fresh` is the fresh state. Assumes nothing.
use mathlib.Core.Path.{refl}
use Rattle.hash.specs.State.{fresh}
use Rattle.hash.proofs.Hash.fresh.Goals as goal

pub returns : goal.returns
unfolding fresh
returns c = refl
