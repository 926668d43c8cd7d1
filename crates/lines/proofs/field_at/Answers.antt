-- `field_at` reads a number and its ending. Assumes nothing.
use mathlib.Core.Path.{sym}
use Rattle.lines.proofs.Places.{field_reads}
use Rattle.lines.proofs.field_at.Goals as goal

pub returns : goal.returns
returns c = field_reads _ _ _ _ (sym c.in-Some.ensures) _ c.in_ok-next.ensures
