-- `ask` answers for a note. Assumes nothing.
use borrow.Author.Rules.{rules}
use mathlib.Core.Path.{◌≡◌, ◌∙◌}
use lib.ListN.{length}
use Rattle.session.proofs.Lists.{length_of_image}
use Rattle.session.proofs.Putting.{index_lt, asked_there}
use Rattle.session.proofs.Session.ask.Goals as goal

pub bounds-self-index : goal.bounds-self-index
bounds-self-index c = rw c.slot_index-index.ensures (index_lt _)

pub offset_bounds-self-index : goal.offset_bounds-self-index
offset_bounds-self-index c = let low = bounds-self-index c in search rules

pub returns : goal.returns
returns c =
    let start = c in
    let all : length start.args.self.slots ≡ 32 = search (rules, length_of_image) in
    c.ask_at.ensures ∙ asked_there _ _ all _ _ c.slot_index-index.ensures
