-- `has_at` is the definition's test. Assumes nothing.
use mathlib.Core.Path.{◌∙◌}
use Rattle.lines.proofs.Marks.{has_got}
use Rattle.lines.proofs.has_at.Goals as goal

pub returns : goal.returns
returns c = c.eq.ensures ∙ has_got _ _ _ _ c.get.ensures.lookup
