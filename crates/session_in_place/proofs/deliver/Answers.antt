-- `deliver` delivers to the note's own slot of the lent session, and counts. Assumes nothing.
use Rattle.std.proofs.Common.{arith, rules, ◌≡◌, ap, length}
use Rattle.slots.specs.Delivery.{deliver_at}
use Rattle.session.specs.Operations.{deliver as delivered}
use Rattle.session.specs.declared.Delivered.{Delivered}
use Rattle.session.proofs.Lists.{length_of_image}
use Rattle.session.proofs.Putting.{index_lt, put_there}
use Rattle.session_in_place.proofs.deliver.Goals as goal

pub bounds-s-index : goal.bounds-s-index
bounds-s-index c = rw c.slot_index-index.ensures (index_lt _)

pub offset_bounds-s-index : goal.offset_bounds-s-index
offset_bounds-s-index c = rw c.slot_index-index.ensures (let low = index_lt c.args.note in omega arith)

pub bounds-s-index-2 : goal.bounds-s-index-2
bounds-s-index-2 c = rw c.slot_index-index.ensures (index_lt _)

pub offset_bounds-s-index-2 : goal.offset_bounds-s-index-2
offset_bounds-s-index-2 c = rw c.slot_index-index.ensures (let low = index_lt c.args.note in omega arith)

pub returns : goal.returns
unfolding delivered deliver_at
returns c =
    let all : length c.args.s.now.slots ≡ 32 = search (rules, length_of_image, c.well_formed) in
    let whole = put_there _ _ all _ _ c.slot_index-index.ensures _ _ _ c.deliver_at-step.ensures c.open_after-s.ensures in
    (ap (λ (d : Delivered). d.answer) whole, ap (λ (d : Delivered). d.session) whole)
