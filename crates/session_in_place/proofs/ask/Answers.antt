-- `ask` asks the note's own slot of the lent session. Assumes nothing.
use Rattle.std.proofs.Common.{arith, rules, ◌≡◌, ◌∙◌, length}
use Rattle.session.proofs.Lists.{length_of_image}
use Rattle.session.proofs.Putting.{index_lt, asked_there}
use Rattle.session_in_place.proofs.ask.Goals as goal

pub bounds-s-index : goal.bounds-s-index
bounds-s-index c = rw c.slot_index-index.ensures (index_lt _)

pub offset_bounds-s-index : goal.offset_bounds-s-index
offset_bounds-s-index c = rw c.slot_index-index.ensures (let low = index_lt c.args.note in omega arith)

pub returns : goal.returns
returns c =
    let all : length c.args.s.now.slots ≡ 32 = search (rules, length_of_image) in
    c.ask_at.ensures ∙ asked_there _ _ all _ _ c.slot_index-index.ensures
