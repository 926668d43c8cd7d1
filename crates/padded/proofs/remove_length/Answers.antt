-- `remove_length` answers the m that the last eight bytes state, and 0 where the bytes are no padded message. Assumes nothing.
use mathlib.Core.Path.{◌∙◌}
use Rattle.padded.proofs.Removed.{length_of_found}
use Rattle.padded.proofs.remove_length.Goals as goal

pub returns : goal.returns
returns c = c.unwrap_or.ensures ∙ length_of_found _ _ c.message_length.ensures
