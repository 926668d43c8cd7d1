-- `tail_of` copies bytes before zeros. Assumes nothing.
use mathlib.Core.Path.{◌∙◌}
use Rattle.hash.proofs.State.{tail_copied}
use Rattle.hash.proofs.tail_of.Goals as goal

pub returns : goal.returns
returns c = c.copy.ensures ∙ tail_copied _ c.requires
