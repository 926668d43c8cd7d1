-- `slot_index` is where a note's slot stands. Assumes nothing.
use mathlib.Core.Path.{sym, ◌∙◌}
use Rattle.rules.proofs.Rules.{is_note_is}
use Rattle.session.proofs.Putting.{index_of_note, index_of_no_note}
use Rattle.session.proofs.slot_index.Goals as goal

pub overflow_sub-result : goal.overflow_sub-result
overflow_sub-result c = ((is_note_is _).0 (sym c.is_note.ensures ∙ c.if-is_note.true)).0

pub returns-then-is_note : goal.returns-then-is_note
returns-then-is_note c = sym (index_of_note _ (sym c.is_note.ensures ∙ c.if-is_note.true))

pub returns-else-is_note : goal.returns-else-is_note
returns-else-is_note c = sym (index_of_no_note _ (sym c.is_note.ensures ∙ c.if-is_note.false))
