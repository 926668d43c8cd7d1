-- The notes 1 to n of a session: which are listed, and whether their slots are in order. Assumes nothing.
use Prim.Native.Nat.{ℕ, zero, suc, ◌+◌, ◌≤◌}
use mathlib.Core.Path.{◌≡◌, refl, sym, ◌∙◌}
use mathlib.Core.Logic.{◌↔◌, ◌⊎◌, inl, inr, ⊎_elim}
use mathlib.Core.List.{[], ◌∷◌}
use mathlib.Core.Bool.{Bool, true, false, true≢false}
use native.Mathlib.Omega.{arith}
use borrow.Author.Tests.{eq-eqb, ne_eqb, eqb-true, eqb-false}
use lib.Dec.{eqb}
use lib.ListN.{length, length-append}
use Rattle.truth.proofs.Tests.{either, below_or_not, first, second, never, not_both}
use Rattle.slots.specs.Slots.{none, slot_in_order}
use Rattle.slots.specs.declared.Slot.{Slot}
use Rattle.session.specs.Sessions.{slot_of}
use Rattle.session.specs.declared.Session.{Session}
use Rattle.writing.specs.Writing.{entry_of, entries_to, entries_of, unspoilt, unspoilt_to}
use Rattle.writing.specs.Promises.{Spoilt, Unspoilt, NoneListed, SomeListed}

-- one slot: what it says of its note, and what is looked at of it
module _ (note : ℕ) (slot : Slot) where
  pub entry_listed : (slot.status ≡ 0 → ⊥) → entry_of note slot ≡ record { note = note; sample = slot.sample } ∷ []
  unfolding entry_of
  entry_listed h = simp (ne_eqb slot.status none h)

  pub entry_unlisted : slot.status ≡ 0 → entry_of note slot ≡ []
  unfolding entry_of
  entry_unlisted h = simp (eq-eqb slot.status none h)

module _ (slot : Slot) where
  sound_listed : (slot.status ≡ 0 → ⊥) → unspoilt slot ≡ slot_in_order slot
  unfolding unspoilt
  sound_listed h = simp (ne_eqb slot.status none h)

  sound_unlisted : slot.status ≡ 0 → unspoilt slot ≡ true
  unfolding unspoilt
  sound_unlisted h = simp (eq-eqb slot.status none h)

  unsound : unspoilt slot ≡ false → (slot.status ≡ 0 → ⊥) × (slot_in_order slot ≡ false)
  unsound h =
      let listed : slot.status ≡ 0 → ⊥ = λ e. not_both _ h (sound_unlisted e) in
      (listed, sym (sound_listed listed) ∙ h)

-- a listed note up to n; for 32 it is `Listed`
abbrev pub ListedTo : Session → (n note : ℕ) → Type 0
ListedTo s n note = (1 ≤ note) × (note ≤ n) × ((slot_of s note).status ≡ 0 → ⊥)

-- up to n + 1 it is that note, or one before it
pub last_or_before : (s : Session) (n note : ℕ) → ListedTo s (suc n) note → (note ≡ suc n) ⊎ ListedTo s n note
last_or_before s n note (low, high, listed) =
    ⊎_elim (λ below. inr (low, omega arith, listed)) (λ above. inl (omega arith)) (below_or_not note (suc n))

-- and one up to n is one up to n + 1
module _ (s : Session) (n : ℕ) where
  pub longer : (note : ℕ) → ListedTo s n note → ListedTo s (suc n) note
  longer note (low, high, listed) = (low, omega arith, listed)

  pub last : ((slot_of s (suc n)).status ≡ 0 → ⊥) → ListedTo s (suc n) (suc n)
  last listed = (omega arith, omega arith, listed)

  -- one slot more
  counted : length (entries_to s (suc n)) ≡ length (entries_to s n) + length (entry_of (suc n) (slot_of s (suc n)))
  unfolding entries_to
  counted = length-append (entries_to s n) (entry_of (suc n) (slot_of s (suc n)))

  pub counted_listed : ((slot_of s (suc n)).status ≡ 0 → ⊥) → length (entries_to s (suc n)) ≡ length (entries_to s n) + 1
  counted_listed h = counted ∙ rw (entry_listed (suc n) (slot_of s (suc n)) h)

  pub counted_unlisted : (slot_of s (suc n)).status ≡ 0 → length (entries_to s (suc n)) ≡ length (entries_to s n)
  counted_unlisted h = counted ∙ rw (entry_unlisted (suc n) (slot_of s (suc n)) h) (omega arith)

-- all of them are in order, or one is not
pub sound_then : (s : Session) (n : ℕ) → unspoilt_to s n ≡ true → (note : ℕ) → ListedTo s n note → slot_in_order (slot_of s note) ≡ true
unfolding unspoilt_to
sound_then s zero h note (low, high, listed) = absurd (omega arith)
sound_then s (suc n) h note l =
    ⊎_elim
    (λ e. sym (sound_listed (slot_of s note) l.2) ∙ rw e (second (unspoilt_to s n) _ h))
    (λ before. sound_then s n (first (unspoilt_to s n) _ h) note before)
    (last_or_before s n note l)

pub unsound_then : (s : Session) (n : ℕ) → unspoilt_to s n ≡ false → (note : ℕ) × ListedTo s n note × (slot_in_order (slot_of s note) ≡ false)
unfolding unspoilt_to
unsound_then s zero h = absurd (true≢false h)
unsound_then s (suc n) h =
    ⊎_elim
    (λ before. let u = unsound (slot_of s (suc n)) (rw before at h) in (suc n, last s n u.0, u.1))
    (λ before. let u = unsound_then s n before in (u.0, longer s n u.0 u.1, u.2))
    (either (unspoilt_to s n))

-- none of them is listed, or one is
pub none_then : (s : Session) (n : ℕ) → length (entries_to s n) ≡ 0 → (note : ℕ) → ListedTo s n note → ⊥
none_then s zero h note (low, high, listed) = omega arith
none_then s (suc n) h note l =
    ⊎_elim
    (λ e. let more = counted_listed s n (rw e at l.2) in omega arith)
    (λ before. none_then s n (omega (arith, counted s n)) note before)
    (last_or_before s n note l)

pub some_then : (s : Session) (n : ℕ) → (length (entries_to s n) ≡ 0 → ⊥) → (note : ℕ) × ListedTo s n note
unfolding entries_to
some_then s zero h = absurd (h refl)
some_then s (suc n) h =
    ⊎_elim
    (λ u. let before = some_then s n (λ e. h (counted_unlisted s n (eqb-true _ _ u) ∙ e)) in (before.0, longer s n before.0 before.1))
    (λ l. (suc n, last s n (eqb-false _ _ l)))
    (either (eqb (slot_of s (suc n)).status none))

-- of all 32, as the tests tell
always : (p : Bool) → (p ≡ false → ⊥) → p ≡ true
always true f = refl
always false f = absurd (f refl)

module _ (s : Session) where
  pub unspoilt_is : (unspoilt_to s 32 ≡ true) ↔ Unspoilt s
  unspoilt_is = (
    sound_then s 32,
    λ all. always _ (λ f. let spoilt = unsound_then s 32 f in not_both _ spoilt.2 (all spoilt.0 spoilt.1)),
  )

  pub spoilt_is : (unspoilt_to s 32 ≡ false) ↔ Spoilt s
  spoilt_is = (unsound_then s 32, λ spoilt. never _ (λ t. not_both _ spoilt.2 (sound_then s 32 t spoilt.0 spoilt.1)))

  pub none_is : (eqb (length (entries_of s)) 0 ≡ true) ↔ NoneListed s
  unfolding entries_of
  none_is = (
    λ t. none_then s 32 (eqb-true _ _ t),
    λ none. always _ (λ f. let some = some_then s 32 (eqb-false _ _ f) in none some.0 some.1),
  )

  pub some_is : (eqb (length (entries_of s)) 0 ≡ false) ↔ SomeListed s
  unfolding entries_of
  some_is = (λ f. some_then s 32 (eqb-false _ _ f), λ some. never _ (λ t. none_then s 32 (eqb-true _ _ t) some.0 some.1))
