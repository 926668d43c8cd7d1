-- `slots`: any two results that meet a contract coincide; and a contract is what is promised, of its own arguments. Assumes nothing.
use mathlib.Core.Path.{◌≡◌, sym, ◌∙◌}
use mathlib.Core.Bool.{true}
use mathlib.Core.Logic.Iff
use mathlib.Core.Logic.{◌↔◌}
use Rattle.coincide.proofs.Tells.{tells}
use Rattle.rules.specs.Promises.{Obeyed}
use Rattle.slots.specs.Promises.{StateInOrder}
use Rattle.slots.proofs.Proved.{proved as slots}
use Rattle.slots.specs.Slots.{empty_slot, waiting_slot}
use Rattle.slots.specs.Delivery.{deliver_at, ask_at}
use Rattle.coincide.specs.Coincide.{Coincide, Means, Answers}
use Rattle.slots.specs.contracts
use Rattle.slots.proofs

pub slot_in_order : Coincide contracts.slot_in_order.ended proofs.slot_in_order.Reads.Post
slot_in_order κs a x y e f p q = p ∙ sym q

-- what meets the contract is that this slot's record obeys rules 3 and 4 and its state fits its status
pub slot_in_order_means : Means contracts.slot_in_order.ended proofs.slot_in_order.Reads.Post
    (λ κs a r e. (r ≡ true) ↔ (Obeyed a.0.sample × StateInOrder a.0))
slot_in_order_means κs a r e = tells _ r (slots.slots_in_order a.0)

pub empty_slot_means : Answers contracts.empty_slot.ended proofs.empty_slot.Reads.Post (λ κs a. empty_slot)
empty_slot_means κs a r e = Iff.rfl

pub waiting_slot_means : Answers contracts.waiting_slot.ended proofs.waiting_slot.Reads.Post (λ κs a. waiting_slot a.0)
waiting_slot_means κs a r e = Iff.rfl

pub deliver_at_means : Answers contracts.deliver_at.ended proofs.deliver_at.Reads.Post (λ κs a. deliver_at a.0 a.1.0 a.1.1.0.now)
deliver_at_means κs a r e = Iff.rfl

pub ask_at_means : Answers contracts.ask_at.ended proofs.ask_at.Reads.Post (λ κs a. ask_at a.0 a.1.0)
ask_at_means κs a r e = Iff.rfl
