-- `remove_number` asks whether the bytes are a padded message. Assumes nothing.
use mathlib.Core.Path.{sym, ◌∙◌}
use Rattle.padded.proofs.Removed.{accepts, refuses}
use Rattle.padded.proofs.remove_number.Goals as goal

pub returns-then-is_padded : goal.returns-then-is_padded
returns-then-is_padded c = accepts _ (sym c.is_padded.ensures ∙ c.if-is_padded.true)

pub returns-else-is_padded : goal.returns-else-is_padded
returns-else-is_padded c = refuses _ (sym c.is_padded.ensures ∙ c.if-is_padded.false)
