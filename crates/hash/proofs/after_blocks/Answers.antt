-- `after_blocks` folds the whole blocks and keeps the rest. Assumes nothing.
use mathlib.Core.Path.{refl, ap, ◌∙◌}
use Rattle.standard.specs.Standard.{rest}
use Rattle.hash.specs.State.{as_tail}
use Rattle.hash.proofs.State.{parts, to_end}
use Rattle.hash.proofs.after_blocks.Goals as goal

pub returns : goal.returns
unfolding rest
returns c = parts c.fold.ensures refl (c.tail_of.ensures ∙ ap as_tail (to_end _ c.args.bytes.now))
