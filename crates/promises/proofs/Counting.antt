-- Slots that are counted, and the walk over them. Assumes nothing.
use Prim.Native.Nat.{ℕ, zero, suc, ◌+◌, ◌≤◌, ◌<◌}
use mathlib.Core.Path.{◌≡◌, refl, sym, ap, ◌∙◌}
use mathlib.Core.Logic.{◌↔◌}
use mathlib.Core.List.{List, [], ◌∷◌}
use mathlib.Core.Bool.{Bool, true, false, cond, not, ◌||◌, true≢false}
use native.Mathlib.Omega.{arith}
use native.Mathlib.Nat.{not-suc-le-zero, le_of_suc-le-suc, add-zero}
use native.Mathlib.Numerals.{add-one}
use borrow.Author.Tests.{eq-eqb, ne_eqb, eqb-true, eqb-false, not-true}
use lib.ListN.{length, get_or, set, replicate}
use Rattle.truth.proofs.Tests.{first, second, both, never}
use Rattle.slots.specs.Slots.{none, opened}
use Rattle.slots.specs.declared.Slot.{Slot}
use Rattle.promises.specs.Light.{slot_listed, slot_open, some_listed, listed_open, how_many, Counting}

-- the two tests
pub listed_is : (slot : Slot) → (slot_listed slot ≡ true) ↔ (slot.status ≡ 0 → ⊥)
unfolding slot_listed
listed_is slot = (λ h. eqb-false _ _ (not-true _ h), λ h. rw (ne_eqb slot.status none h))

pub open_is : (slot : Slot) → (slot_open slot ≡ true) ↔ (slot.status ≡ 2)
unfolding slot_open
open_is slot = (eqb-true slot.status opened, eq-eqb slot.status opened)

pub unlisted_is : (slot : Slot) → slot.status ≡ 0 → slot_listed slot ≡ false
unlisted_is slot h = never _ (λ l. (listed_is slot).0 l h)

pub shut_is : (slot : Slot) → (slot.status ≡ 2 → ⊥) → slot_open slot ≡ false
shut_is slot h = never _ (λ o. h ((open_is slot).0 o))

-- one slot more or none
unfoldable pub one : Bool → ℕ
one true = 1
one false = 0

pub counts_first : (test : Slot → Bool) (slot : Slot) (slots : List Slot) (b : Bool) → test slot ≡ b → how_many test (slot ∷ slots) ≡ how_many test slots + one b
unfolding how_many one
counts_first test slot slots true e = rw e (sym (add-one _))
counts_first test slot slots false e = rw e (sym (add-zero (how_many test slots)))

pub counting_is : (test : Slot → Bool) (slot : Slot) (slots : List Slot) → Counting test slot slots
unfolding how_many
counting_is test slot slots =
    record {
      of_none = refl;
      one_more = λ e. rw e (sym (add-one _));
      not_this = λ e. rw e;
      is_listed_lem = listed_is slot;
      is_open = open_is slot;
    }

-- a slot that is put in another's place: what the one counted for goes, what the other counts for comes
pub counts_set : (test : Slot → Bool) (l : List Slot) (i : ℕ) (slot d : Slot) → i < length l
    → how_many test (set l i slot) + one (test (get_or l i d)) ≡ how_many test l + one (test slot)
counts_set test [] i slot d low = absurd (not-suc-le-zero low)
counts_set test (x ∷ l) zero slot d low =
    let before = counts_first test x l _ refl in
    let after = counts_first test slot l _ refl in
    omega arith
counts_set test (x ∷ l) (suc i) slot d low =
    let rest = counts_set test l i slot d (le_of_suc-le-suc low) in
    let before = counts_first test x l _ refl in
    let after = counts_first test x (set l i slot) _ refl in
    omega arith

-- the same slot many times over
pub same_many : (test : Slot → Bool) (slot : Slot) (n : ℕ) (b : Bool) → test slot ≡ b → how_many test (replicate n slot) ≡ cond b n 0
unfolding how_many
same_many test slot zero true e = refl
same_many test slot zero false e = refl
same_many test slot (suc n) true e = rw e (ap suc (same_many test slot n true e))
same_many test slot (suc n) false e = rw e (same_many test slot n false e)

at_most_one : (b : Bool) → one b ≤ 1
unfolding one
at_most_one true = omega arith
at_most_one false = omega arith

pub at_most : (test : Slot → Bool) (l : List Slot) → how_many test l ≤ length l
unfolding how_many
at_most test [] = omega arith
at_most test (x ∷ l) = let rest = at_most test l in let first = counts_first test x l _ refl in let few = at_most_one (test x) in omega arith

or_second : (a : Bool) {b : Bool} → b ≡ true → (a || b) ≡ true
or_second true h = refl
or_second false h = h

-- an open slot is listed
open_listed : (slot : Slot) → slot_open slot ≡ true → slot_listed slot ≡ true
open_listed slot h = let is = (open_is slot).0 h in (listed_is slot).1 (λ e. absurd (omega arith))

-- the walk, by the counts: some slot is listed exactly where their number is not 0,
some_first : (slot : Slot) (slots : List Slot) (b : Bool) → slot_listed slot ≡ b → (some_listed slots ≡ true) ↔ (how_many slot_listed slots ≡ 0 → ⊥)
    → (some_listed (slot ∷ slots) ≡ true) ↔ (how_many slot_listed (slot ∷ slots) ≡ 0 → ⊥)
unfolding some_listed how_many
some_first slot slots true e rest = rw e (λ h n. absurd (omega arith), λ h. refl)
some_first slot slots false e rest = rw e rest

pub some_counted : (l : List Slot) → (some_listed l ≡ true) ↔ (how_many slot_listed l ≡ 0 → ⊥)
unfolding some_listed how_many
some_counted [] = (λ h. absurd (true≢false (sym h)), λ h. absurd (h refl))
some_counted (x ∷ l) = some_first x l (slot_listed x) refl (some_counted l)

-- and every listed one is open exactly where as many are open as are listed
abbrev Fully : List Slot → Type 0
Fully l = (how_many slot_open l ≤ how_many slot_listed l) × ((listed_open l ≡ true) ↔ (how_many slot_listed l ≡ how_many slot_open l))

fully_first : (slot : Slot) (slots : List Slot) (a b : Bool) → slot_listed slot ≡ a → slot_open slot ≡ b → Fully slots → Fully (slot ∷ slots)
unfolding listed_open how_many
fully_first slot slots true true e f (most, all) = rw (e, f) (omega arith, (λ h. ap suc (all.0 h), λ h. all.1 (omega arith)))
fully_first slot slots true false e f (most, all) = rw (e, f) (omega arith, (λ h. absurd (true≢false (sym h)), λ h. absurd (omega arith)))
fully_first slot slots false true e f (most, all) = absurd (true≢false (sym (open_listed slot f) ∙ e))
fully_first slot slots false false e f (most, all) = rw (e, f) (most, all)

pub fully : (l : List Slot) → Fully l
unfolding listed_open how_many
fully [] = (omega arith, (λ h. refl, λ h. refl))
fully (x ∷ l) = fully_first x l (slot_listed x) (slot_open x) refl refl (fully l)

-- the walk, place by place
module _ (d : Slot) where
  abbrev ListedAt : List Slot → ℕ → Type 0
  ListedAt l i = (i < length l) × (slot_listed (get_or l i d) ≡ true)

  listed_first : (x : Slot) (l : List Slot) (b : Bool) → slot_listed x ≡ b → (some_listed l ≡ true → (i : ℕ) × ListedAt l i) → some_listed (x ∷ l) ≡ true
      → (i : ℕ) × ListedAt (x ∷ l) i
  unfolding some_listed
  listed_first x l true e rest h = (0, (omega arith, e))
  listed_first x l false e rest h = let found = rest (rw e at h) in (suc found.0, (omega (arith, found.1.0), found.1.1))

  pub some_place : (l : List Slot) → some_listed l ≡ true → (i : ℕ) × ListedAt l i
  unfolding some_listed
  some_place [] h = absurd (true≢false (sym h))
  some_place (x ∷ l) h = listed_first x l (slot_listed x) refl (some_place l) h

  pub place_some : (l : List Slot) (i : ℕ) → ListedAt l i → some_listed l ≡ true
  unfolding some_listed
  place_some [] i (low, listed) = absurd (not-suc-le-zero low)
  place_some (x ∷ l) zero (low, listed) = rw listed
  place_some (x ∷ l) (suc i) (low, listed) = or_second (slot_listed x) (place_some l i (le_of_suc-le-suc low, listed))

  -- every listed one
  abbrev OpenAt : List Slot → Type 0
  OpenAt l = (i : ℕ) → ListedAt l i → slot_open (get_or l i d) ≡ true

  pub all_places : (l : List Slot) → listed_open l ≡ true → OpenAt l
  unfolding listed_open
  all_places [] h i (low, listed) = absurd (not-suc-le-zero low)
  all_places (x ∷ l) h zero (low, listed) = rw listed at (first (not (slot_listed x) || slot_open x) _ h)
  all_places (x ∷ l) h (suc i) (low, listed) = all_places l (second (not (slot_listed x) || slot_open x) _ h) i (le_of_suc-le-suc low, listed)

  open_if : (a b : Bool) → (a ≡ true → b ≡ true) → (not a || b) ≡ true
  open_if true b f = f refl
  open_if false b f = refl

  pub places_all : (l : List Slot) → OpenAt l → listed_open l ≡ true
  unfolding listed_open
  places_all [] f = refl
  places_all (x ∷ l) f =
      both (not (slot_listed x) || slot_open x) (listed_open l) (open_if (slot_listed x) (slot_open x) (λ listed. f 0 (omega arith, listed)))
      (places_all l (λ i at. f (suc i) (omega (arith, at.0), at.1)))
