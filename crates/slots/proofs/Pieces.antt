-- A piece that a waiting slot takes. Assumes nothing.
use Prim.Native.Nat.{ℕ, ◌+◌, ◌≤◌, ◌<◌}
use mathlib.Core.Path.{◌≡◌, refl, sym, ap, ◌∙◌}
use mathlib.Core.List.{List, []}
use mathlib.Core.Bool.{Bool, true, false, cond, true≢false}
use mathlib.Core.Logic.{◌↔◌}
use native.Mathlib.Omega.{arith}
use borrow.Author.Tests.{ltb-true, ltb-false}
use lib.Dec.{ltb}
use lib.ListN.{length}
use Rattle.refusal.specs.Table.{accepted}
use Rattle.truth.proofs.Tests.{never}
use Rattle.hash.specs.State.{fresh, in_order}
use Rattle.hash.specs.Update.{after_piece, update}
use Rattle.hash.specs.Digests.{finish, compare_state}
use Rattle.hash.specs.declared.Hash.{Hash}
use Rattle.hash.specs.declared.Updated.{Updated}
use Rattle.hash.proofs.Taking.{afterPiece_nil, inOrder_afterPiece}
use Rattle.hash.proofs.Proved.{proved}
use Rattle.hash.proofs.Updating.{update_takes}
use Rattle.slots.specs.Slots.{waiting, opened, shut, slot_in_order, bytes_taken}
use Rattle.slots.specs.Delivery.{decided_slot, with_piece}
use Rattle.slots.specs.Promises.{Outcome}
use Rattle.slots.specs.declared.Slot.{Slot}
use Rattle.slots.proofs.Records.{piece_kept}
use Rattle.slots.proofs.Slots.{slot_in_order_is, when_waiting, has_room}
use Rattle.slots.proofs.Deliver.{waits_on, decides}

-- a decided slot has taken its length
decided_taken : (s : Slot) (h : Hash) (b : Bool) → (compare_state h s.sample.digest).same ≡ b → bytes_taken (decided_slot s h) ≡ s.sample.length
unfolding decided_slot bytes_taken
decided_taken s h true e = rw e
decided_taken s h false e = rw e

-- open or shut tells the test
is_opened : (b : Bool) → cond b opened shut ≡ opened → b ≡ true
is_opened true e = refl
is_opened false e = absurd (omega arith)

is_shut : (b : Bool) → cond b opened shut ≡ shut → b ≡ true → ⊥
is_shut true e t = omega arith
is_shut false e t = true≢false (sym t)

module _ (s : Slot) (o : slot_in_order s ≡ true) (w : s.status ≡ waiting) where
  state_in_order_lem : in_order s.state ≡ true
  state_in_order_lem = (when_waiting s o w).0

  length_fits : s.sample.length ≤ 4294967294
  length_fits = ((slot_in_order_is s).0 o).0.at_most

  module _ (piece : List ℕ) (fits : s.state.total + length piece ≤ s.sample.length) where
    abbrev h : Hash
    h = after_piece s.state piece

    pub takes : update s.state piece ≡ record { number = accepted; state = h }
    takes = update_takes s.state piece state_in_order_lem (let l = length_fits in omega arith)

    same_state : (update s.state piece).state ≡ h
    same_state = ap (λ (u : Updated). u.state) takes

    total_after : h.total ≡ s.state.total + length piece
    unfolding after_piece
    total_after = refl

    counts : (b : Bool) → ltb h.total s.sample.length ≡ b → bytes_taken (with_piece s piece) ≡ s.state.total + length piece
    unfolding bytes_taken
    counts true e = ap bytes_taken (waits_on s piece _ (sym takes) (ltb-true _ _ e)) ∙ total_after
    counts false e =
        let k = ltb-false _ _ e in
        let t = total_after in
        ap bytes_taken (decides s piece _ (sym takes) k) ∙ decided_taken s h _ refl ∙ omega arith

    pub counted : bytes_taken (with_piece s piece) ≡ s.state.total + length piece
    counted = counts _ refl

    waits : s.state.total + length piece < s.sample.length → with_piece s piece ≡ record { sample = s.sample; state = (update s.state piece).state; status = 1 }
    waits below = waits_on s piece _ refl (rw (same_state, total_after) below)

    module _ (full : s.state.total + length piece ≡ s.sample.length) where
      after : with_piece s piece ≡ decided_slot s h
      after = decides s piece _ (sym takes) (let t = total_after in omega arith)

      leaves : (with_piece s piece).state ≡ fresh
      unfolding decided_slot
      leaves = ap (λ (x : Slot). x.state) after

      status_is : (with_piece s piece).status ≡ cond (compare_state h s.sample.digest).same opened shut
      unfolding decided_slot
      status_is = ap (λ (x : Slot). x.status) after

      fits_is : ((compare_state h s.sample.digest).same ≡ true) ↔ (s.sample.digest ≡ (finish (update s.state piece).state).bytes)
      fits_is =
          let compared = (proved.state_compared h s.sample.digest).3 in
          let ordered : in_order h ≡ true = inOrder_afterPiece s.state state_in_order_lem piece (let l = length_fits in omega arith) in
          rw same_state (λ e. (compared.0 e).1, λ e. compared.1 (ordered, e))

      opens : ((with_piece s piece).status ≡ opened) ↔ (s.sample.digest ≡ (finish (update s.state piece).state).bytes)
      opens = (λ e. fits_is.0 (is_opened _ (sym status_is ∙ e)), λ e. status_is ∙ rw (fits_is.1 e))

      shuts : ((with_piece s piece).status ≡ shut) ↔ (s.sample.digest ≡ (finish (update s.state piece).state).bytes → ⊥)
      shuts = (λ e f. is_shut _ (sym status_is ∙ e) (fits_is.1 f), λ e. status_is ∙ rw (never _ (λ f. e (fits_is.0 f))))

    pub outcome_is : Outcome s piece (with_piece s piece)
    outcome_is = record { keeps = piece_kept s piece; waits = waits; leaves = leaves; opens = opens; shuts = shuts }

  pub empty_piece : with_piece s [] ≡ s
  empty_piece =
      let r = has_room s o w in
      let same = afterPiece_nil s.state state_in_order_lem in
      waits_on s [] _ (sym (takes [] (omega arith))) (rw same r) ∙ ap (λ k. record { sample = s.sample; state = k; status = waiting }) same
      ∙ ap (λ k. record { sample = s.sample; state = s.state; status = k }) (sym w)
