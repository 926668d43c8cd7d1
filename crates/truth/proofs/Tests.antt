-- Tests that are joined by `and`, tests that say the same, and what a test tells either way. Assumes nothing.
use Prim.Native.Nat.{ℕ, ◌<◌, ◌≤◌}
use mathlib.Core.Path.{◌≡◌, refl, sym, ◌∙◌}
use mathlib.Core.Bool.{Bool, true, false, ◌&&◌, true≢false}
use mathlib.Core.Logic.{◌⊎◌, inl, inr, ⊎_map}
use borrow.Author.Tests.{ltb-true, ltb-false}
use lib.Dec.{ltb}

-- a test holds or it does not
pub either : (p : Bool) → (p ≡ true) ⊎ (p ≡ false)
either true = inl refl
either false = inr refl

pub below_or_not : (a b : ℕ) → (a < b) ⊎ (b ≤ a)
below_or_not a b = ⊎_map (ltb-true a b) (ltb-false a b) (either (ltb a b))

-- two tests, each of which holds where the other does
pub agree : (p q : Bool) → (p ≡ true → q ≡ true) → (q ≡ true → p ≡ true) → p ≡ q
agree true true f g = refl
agree true false f g = sym (f refl)
agree false true f g = g refl
agree false false f g = refl

-- `and`, taken apart
pub first : (p q : Bool) → (p && q) ≡ true → p ≡ true
first true q h = refl
first false q h = h

pub second : (p q : Bool) → (p && q) ≡ true → q ≡ true
second true q h = h
second false true h = refl
second false false h = h

-- and put together
pub both : (p q : Bool) → p ≡ true → q ≡ true → (p && q) ≡ true
both true q h k = k
both false q h k = h

-- what never holds is false
pub never : (p : Bool) → (p ≡ true → ⊥) → p ≡ false
never true f = absurd (f refl)
never false f = refl

-- a test that is false does not hold
pub not_both : (p : Bool) → p ≡ false → p ≡ true → ⊥
not_both p f t = true≢false (sym t ∙ f)

-- an answer r to the test p, as it was found
pub refuted : {r p : Bool} → r ≡ p → r ≡ false → p ≡ false
refuted {r} {p} e h = sym e ∙ h

pub confirmed : {r p : Bool} → r ≡ p → r ≡ true → p ≡ true
confirmed {r} {p} e h = sym e ∙ h
