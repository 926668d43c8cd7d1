-- A session as a call is lent it: its digests are of 32 bytes, each below 256, by their type. Assumes nothing.
use Prim.Native.Nat.{ℕ, zero, suc, ◌-◌, ◌<◌}
use mathlib.Core.Path.{sym, subst}
use mathlib.Core.List.{List, [], ◌∷◌}
use native.Mathlib.Omega.{arith}
use lib.ListN.{length, get_or}
use mir.Val.{Val}
use denote.RattleType.{RattleType}
use denote.Laws.{Is}
use denote.Shadow.{shadow}
use denote.Array.{each}
use denote.Builtin.{u8}
use Rattle.slots.specs.contracts.Slot as OneSlot
use Rattle.slots.specs.Slots.{empty_slot}
use Rattle.slots.specs.declared.Slot.{Slot}
use Rattle.session.specs.contracts.Session as AllSlots
use Rattle.session.specs.declared.Session.{Session}
use Rattle.session.proofs.Proved.{proved as session}
use Rattle.writing_promises.specs.Promises.{StoredDigest, DigestsStored}

-- an element of an array is a value of its type
nth : (R : RattleType) (xs : List R.Denot) (us : List Val) → shadow (each R.Denot R.own_val xs us) → (i : ℕ) (d : R.Denot) → i < length xs
    → (u : Val) × Is R (get_or xs i d) (u ∷ [])
nth R [] us s i d l = absurd (omega arith)
nth R (x ∷ xs) [] s i d l = absurd s
nth R (x ∷ xs) (u ∷ us) s zero d l = (u, s.0)
nth R (x ∷ xs) (u ∷ us) s (suc i) d l = nth R xs us s.1 i d (omega arith)

of_slot : (slot : Slot) (us : List Val) → Is OneSlot.the_row slot us → StoredDigest slot.sample.digest
of_slot slot us is =
    let sample = is.1.1.0 in
    let digest = sample.1.1.1.1.1.0 in
    let long = digest.1.0.1 in
    record {
      long = long;
      bytes = λ i l. (nth u8 slot.sample.digest digest.0 digest.1.1 i 0 (omega (arith, long))).1.1;
    }

pub lent_digests : (s : Session) (us : List Val) → Is AllSlots.the_row s us → DigestsStored s
lent_digests s us is note l =
    let array = is.1.1.0 in
    let all = array.1.0.1 in
    let slot = nth OneSlot.the_row s.slots array.0 array.1.1 (note - 1) empty_slot (omega (arith, all, l.0, l.1)) in
    subst (λ (x : Slot). StoredDigest x.sample.digest) (sym (session.places s note l.0 l.1)) (of_slot (get_or s.slots (note - 1) empty_slot) (slot.0 ∷ []) slot.1)
