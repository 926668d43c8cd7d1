-- A slot in order. Assumes nothing.
use Prim.Native.Nat.{ℕ, ◌<◌}
use mathlib.Core.Path.{◌≡◌, refl, sym}
use mathlib.Core.Logic.{◌↔◌, ◌⊎◌, inl, inr}
use mathlib.Core.Bool.{Bool, true, false, true≢false}
use native.Mathlib.Omega.{arith}
use borrow.Author.Tests.{eq-eqb, ne_eqb, eqb-true, lt-ltb, ltb-true}
use lib.Dec.{eqb}
use Rattle.truth.proofs.Tests.{first, second, both}
use Rattle.hash.specs.State.{in_order}
use Rattle.hash.proofs.State.{isFresh_fresh, fresh_only}
use Rattle.rules.specs.Rules.{obeys}
use Rattle.rules.specs.Promises.{Obeyed}
use Rattle.rules.proofs.Rules.{obeys_is}
use Rattle.slots.specs.Slots.{waiting, opened, shut, is_decided, state_in_order, slot_in_order, bytes_taken}
use Rattle.slots.specs.Promises.{Decided, StateInOrder}
use Rattle.slots.specs.declared.Slot.{Slot}

-- open or shut, and its test
decided_then : (status : ℕ) (b : Bool) → eqb status opened ≡ b → is_decided status ≡ true → (status ≡ opened) ⊎ (status ≡ shut)
unfolding is_decided
decided_then status true e h = inl (eqb-true _ _ e)
decided_then status false e h = inr (eqb-true _ _ (rw e at h))

decided_test : (status : ℕ) → (status ≡ opened) ⊎ (status ≡ shut) → is_decided status ≡ true
unfolding is_decided
decided_test status (inl e) = rw e
decided_test status (inr e) = rw e

-- a decided slot waits no more
pub not_waiting : (s : Slot) → Decided s → s.status ≡ waiting → ⊥
not_waiting s (inl d) w = omega arith
not_waiting s (inr d) w = omega arith

module _ (s : Slot) where
  -- a state that fits its status, and the test
  state_then : (w d : Bool) → eqb s.status waiting ≡ w → is_decided s.status ≡ d → state_in_order s ≡ true → StateInOrder s
  unfolding state_in_order
  state_then true d e k h =
      let fit = rw e at h in
      inl (eqb-true _ _ e, first (in_order s.state) _ fit, ltb-true _ _ (second (in_order s.state) _ fit))
  state_then false true e k h = inr (decided_then _ _ refl k, fresh_only s.state (rw (e, k) at h))
  state_then false false e k h = absurd (true≢false (sym (rw (e, k) at h)))

  state_test : StateInOrder s → state_in_order s ≡ true
  unfolding state_in_order
  state_test (inl (w, o, l)) = simp (eq-eqb _ _ w, o, lt-ltb _ _ l)
  state_test (inr (d, f)) = simp (ne_eqb _ _ (not_waiting s d), decided_test _ d) (rw f isFresh_fresh)

  pub slot_in_order_is : (slot_in_order s ≡ true) ↔ (Obeyed s.sample × StateInOrder s)
  unfolding slot_in_order
  slot_in_order_is = (
    λ h. ((obeys_is s.sample).0 (first (obeys s.sample) _ h), state_then _ _ refl refl (second (obeys s.sample) _ h)),
    λ h. both _ _ ((obeys_is s.sample).1 h.0) (state_test h.1),
  )

  -- a slot in order waits, with room for more, or is decided
  pub when_waiting : slot_in_order s ≡ true → s.status ≡ waiting → (in_order s.state ≡ true) × (s.state.total < s.sample.length)
  when_waiting h w = fit (slot_in_order_is.0 h).1
    where
      fit : StateInOrder s → (in_order s.state ≡ true) × (s.state.total < s.sample.length)
      fit (inl p) = (p.1, p.2)
      fit (inr p) = absurd (not_waiting s p.0 w)

  pub has_room : slot_in_order s ≡ true → s.status ≡ waiting → s.state.total < s.sample.length
  has_room h w = (when_waiting h w).1

  pub else_decided : slot_in_order s ≡ true → (s.status ≡ waiting → ⊥) → Decided s
  else_decided h n = other (slot_in_order_is.0 h).1
    where
      other : StateInOrder s → Decided s
      other (inl p) = absurd (n p.0)
      other (inr p) = p.0

  -- a waiting slot has taken what is in its hash state, a decided one its length
  pub taken_waiting : s.status ≡ waiting → bytes_taken s ≡ s.state.total
  unfolding bytes_taken
  taken_waiting w = simp (eq-eqb _ _ w)

  pub taken_decided : Decided s → bytes_taken s ≡ s.sample.length
  unfolding bytes_taken
  taken_decided d = simp (ne_eqb _ _ (not_waiting s d))
