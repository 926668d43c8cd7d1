-- A piece that is taken keeps the slot's record. Assumes nothing.
use Prim.Native.Nat.{ℕ}
use mathlib.Core.Path.{◌≡◌, refl}
use mathlib.Core.Bool.{Bool, true, false, cond}
use mathlib.Core.List.{List}
use lib.Dec.{ltb}
use Rattle.hash.specs.Update.{update}
use Rattle.hash.specs.declared.Hash.{Hash}
use Rattle.rules.specs.declared.Record.{Record}
use Rattle.slots.specs.Slots.{waiting}
use Rattle.slots.specs.Delivery.{decided_slot, with_piece}
use Rattle.slots.specs.declared.Slot.{Slot}

-- one of two slots with the same record
slot_kept : {r : Record} (t : Bool) (x y : Slot) → x.sample ≡ r → y.sample ≡ r → (cond t x y).sample ≡ r
slot_kept true x y e f = e
slot_kept false x y e f = f

pub piece_kept : (s : Slot) (piece : List ℕ) → (with_piece s piece).sample ≡ s.sample
unfolding with_piece decided_slot
piece_kept s piece =
    let h : Hash = (update s.state piece).state in
    slot_kept (ltb h.total s.sample.length) (record { sample = s.sample; state = h; status = waiting }) (decided_slot s h) refl refl
