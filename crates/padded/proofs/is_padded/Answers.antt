-- `is_padded` asks whether there is a message. Assumes nothing.
use mathlib.Core.Path.{◌∙◌}
use Rattle.padded.proofs.Removed.{some_of_found}
use Rattle.padded.proofs.is_padded.Goals as goal

pub returns : goal.returns
returns c = c.is_some.ensures ∙ some_of_found _ _ c.message_length.ensures
