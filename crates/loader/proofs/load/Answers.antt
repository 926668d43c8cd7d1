-- `load` loads a note's slot. Assumes nothing.
use borrow.Author.Rules.{rules}
use Rattle.loader.proofs.Feeding.{slot_passed, slot_fed, fed_nothing}
use Rattle.loader.proofs.load.Goals as goal

pub returns-then-ask_at-ne-ACCEPTED : goal.returns-then-ask_at-ne-ACCEPTED
returns-then-ask_at-ne-ACCEPTED g c = slot_passed _ _ c.ask_at.result c.ask_at.ensures (search rules)

pub returns-in_default : goal.returns-in_default
returns-in_default g c = slot_fed _ _ c.ask_at.result c.ask_at.ensures _ (search rules) (fed_nothing _ _)

pub returns : goal.returns
returns g c = slot_fed _ _ c.ask_at.result c.ask_at.ensures _ (search rules) c.feed.ensures
