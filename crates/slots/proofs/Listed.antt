-- A note that is listed, and its test; an operation on its slot. Assumes nothing.
use Prim.Native.Nat.{ℕ}
use mathlib.Core.Path.{◌≡◌, ap}
use mathlib.Core.Bool.{true, false, not}
use borrow.Author.Tests.{ne_eqb, eqb-false, not-true}
use lib.Dec.{eqb}
use Rattle.refusal.specs.Table.{unlisted}
use Rattle.truth.proofs.Tests.{first, second, both}
use Rattle.rules.specs.Rules.{is_note}
use Rattle.slots.specs.Slots.{none}
use Rattle.slots.specs.Delivery.{bare_refusal, ask_of, is_listed, on_slot, ask_at}
use Rattle.slots.specs.declared.Slot.{Slot}
use Rattle.slots.specs.declared.Step.{Step}

module _ (s : Slot) (note : ℕ) where
  pub listed_note : is_listed s note ≡ true → is_note note ≡ true
  unfolding is_listed
  listed_note h = first (is_note note) (not (eqb s.status none)) h

  pub listed_status : is_listed s note ≡ true → s.status ≡ none → ⊥
  unfolding is_listed
  listed_status h = eqb-false _ _ (not-true _ (second (is_note note) (not (eqb s.status none)) h))

  pub is_listed_lem : is_note note ≡ true → (s.status ≡ none → ⊥) → is_listed s note ≡ true
  unfolding is_listed
  is_listed_lem n h = both _ _ n (ap not (ne_eqb _ _ h))

  pub no_note : is_note note ≡ false → is_listed s note ≡ false
  unfolding is_listed
  no_note h = simp h

module _ (s : Slot) (note : ℕ) where
  pub at_listed : (f : Slot → Step) → is_listed s note ≡ true → on_slot s note f ≡ f s
  unfolding on_slot
  at_listed f h = simp h

  pub at_unlisted : (f : Slot → Step) → is_listed s note ≡ false → on_slot s note f ≡ record { answer = bare_refusal unlisted; slot = s }
  unfolding on_slot
  at_unlisted f h = simp h

  pub ask_at_listed : is_listed s note ≡ true → ask_at s note ≡ ask_of s
  unfolding ask_at
  ask_at_listed h = simp h

  pub ask_at_unlisted : is_listed s note ≡ false → ask_at s note ≡ bare_refusal unlisted
  unfolding ask_at
  ask_at_unlisted h = simp h
