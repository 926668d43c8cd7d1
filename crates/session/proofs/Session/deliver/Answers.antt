-- `deliver` delivers a piece to a note. Assumes nothing.
use borrow.Author.Rules.{rules}
use mathlib.Core.Path.{◌≡◌}
use lib.ListN.{length}
use Rattle.slots.specs.Delivery.{deliver_at}
use Rattle.session.specs.Operations.{deliver}
use Rattle.session.proofs.Lists.{length_of_image}
use Rattle.session.proofs.Putting.{index_lt, put_there}
use Rattle.session.proofs.Session.deliver.Goals as goal

pub bounds-self-index : goal.bounds-self-index
bounds-self-index c = rw c.slot_index-index.ensures (index_lt _)

pub offset_bounds-self-index : goal.offset_bounds-self-index
offset_bounds-self-index c = let low = bounds-self-index c in search rules

pub bounds-self-index-2 : goal.bounds-self-index-2
bounds-self-index-2 c = rw c.slot_index-index.ensures (index_lt _)

pub offset_bounds-self-index-2 : goal.offset_bounds-self-index-2
offset_bounds-self-index-2 c = let low = bounds-self-index-2 c in search rules

pub returns : goal.returns
unfolding deliver deliver_at
returns c =
    let step = c in
    let indexed = step in
    let start = indexed in
    let all : length start.args.self.slots ≡ 32 = search (rules, length_of_image, start.well_formed) in
    put_there _ _ all _ _ indexed.slot_index-index.ensures _ _ _ step.deliver_at-step.ensures c.open_after.ensures
