-- A note that is listed, and its test. Assumes nothing.
use Prim.Native.Nat.{ℕ}
use mathlib.Core.Path.{◌≡◌, refl}
use mathlib.Core.Logic.{◌↔◌, inl, inr}
use mathlib.Core.Bool.{Bool, true, false}
use native.Mathlib.Omega.{arith}
use borrow.Author.Tests.{leb-true, leb-false, eqb-true, eqb-false}
use lib.Dec.{leb, eqb}
use Rattle.truth.proofs.Tests.{never, not_both}
use Rattle.rules.proofs.Rules.{is_note_is}
use Rattle.slots.specs.Slots.{none}
use Rattle.slots.specs.Delivery.{is_listed}
use Rattle.slots.proofs.Listed.{listed_note, listed_status, is_listed_lem}
use Rattle.session.specs.Sessions.{slot_of}
use Rattle.session.specs.Promises.{Listed, Unlisted}
use Rattle.session.specs.declared.Session.{Session}

module _ (s : Session) (note : ℕ) where
  listed_then : is_listed (slot_of s note) note ≡ true → Listed s note
  listed_then h = let number = (is_note_is note).0 (listed_note (slot_of s note) note h) in (number.0, number.1, listed_status (slot_of s note) note h)

  listed_test : Listed s note → is_listed (slot_of s note) note ≡ true
  listed_test (low, high, status) = is_listed_lem (slot_of s note) note ((is_note_is note).1 (low, high)) status

  pub listed_is : (is_listed (slot_of s note) note ≡ true) ↔ Listed s note
  listed_is = (listed_then, listed_test)

  -- what is listed is not unlisted
  pub never_both : Listed s note → Unlisted s note → ⊥
  never_both (low, high, status) (inl e) = omega arith
  never_both (low, high, status) (inr (inl e)) = omega arith
  never_both (low, high, status) (inr (inr e)) = status e

  unlisted_then : (a b c : Bool) → leb 1 note ≡ a → leb note 32 ≡ b → eqb (slot_of s note).status none ≡ c → is_listed (slot_of s note) note ≡ false
      → Unlisted s note
  unlisted_then false b c p q r h = let low = leb-false 1 note p in inl (omega arith)
  unlisted_then true false c p q r h = inr (inl (leb-false _ _ q))
  unlisted_then true true true p q r h = inr (inr (eqb-true _ _ r))
  unlisted_then true true false p q r h = absurd (not_both _ h (listed_test (leb-true _ _ p, leb-true _ _ q, eqb-false _ _ r)))

  pub unlisted_is : (is_listed (slot_of s note) note ≡ false) ↔ Unlisted s note
  unlisted_is = (unlisted_then _ _ _ refl refl refl, λ u. never _ (λ h. never_both (listed_then h) u))
