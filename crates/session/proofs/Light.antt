-- The rank-ready light's two counts. Assumes nothing.
use Prim.Native.Nat.{ℕ, ◌+◌, ◌≤◌, ◌<◌}
use mathlib.Core.Path.{◌≡◌, refl, sym, ◌∙◌}
use mathlib.Core.Logic.{◌↔◌, ⊎_elim}
use mathlib.Core.Bool.{Bool, true, false, cond, not, ◌&&◌}
use borrow.Author.Tests.{eq-eqb, ne_eqb, eqb-true, eqb-false, not-true, lt-ltb, le-ltb}
use lib.Dec.{eqb}
use Rattle.truth.proofs.Tests.{either, below_or_not, first, second}
use Rattle.slots.specs.Slots.{opened}
use Rattle.session.specs.Light.{all_open, opens, one_more, open_after}
use Rattle.session.specs.Promises.{OpenCount}

-- a status that stays opens nothing
never_opens : (b : Bool) → (not b && b) ≡ false
never_opens true = refl
never_opens false = refl

pub count_same : (count status : ℕ) → open_after count status status ≡ count
unfolding open_after opens
count_same count status = rw (never_opens (eqb status opened))

-- two notes may be opened in either order
either_order : (count : ℕ) (a b : Bool) → cond b (one_more (cond a (one_more count) count)) (cond a (one_more count) count)
    ≡ cond a (one_more (cond b (one_more count) count)) (cond b (one_more count) count)
either_order count true true = refl
either_order count true false = refl
either_order count false true = refl
either_order count false false = refl

pub counts_commute : (count before after before' after' : ℕ)
    → open_after (open_after count before after) before' after' ≡ open_after (open_after count before' after') before after
unfolding open_after
counts_commute count before after before' after' = either_order count (opens before after) (opens before' after')

-- the light
pub light_is : (listed open_ones_lem : ℕ) → (all_open listed open_ones_lem ≡ true) ↔ ((listed ≡ open_ones_lem) × (open_ones_lem ≡ 0 → ⊥))
unfolding all_open
light_is listed open_ones_lem = (
  λ h. (
    eqb-true listed open_ones_lem (first (eqb listed open_ones_lem) _ h),
    eqb-false open_ones_lem 0 (not-true (eqb open_ones_lem 0) (second (eqb listed open_ones_lem) _ h)),
  ),
  λ h. rw (eq-eqb listed open_ones_lem h.0, ne_eqb open_ones_lem 0 h.1),
)

-- a count below 32, and one that stays
one_more_lem : (count : ℕ) → count < 32 → one_more count ≡ count + 1
unfolding one_more
one_more_lem count h = rw (lt-ltb count 32 h)

stays : (count : ℕ) → 32 ≤ count → one_more count ≡ count
unfolding one_more
stays count h = rw (le-ltb count 32 h)

either_way : (count : ℕ) (b : Bool) → 32 ≤ count → cond b (one_more count) count ≡ count
either_way count true h = stays count h
either_way count false h = refl

if_second : (p : Bool) (a b : ℕ) → cond (p && false) a b ≡ b
if_second true a b = refl
if_second false a b = refl

pub open_count_is : (count before after : ℕ) → OpenCount count before after (open_after count before after)
unfolding open_after opens
open_count_is count before after =
    record {
      opening = λ was is low. rw (ne_eqb before opened was, eq-eqb after opened is) (one_more_lem count low);
      full = either_way count (not (eqb before opened) && eqb after opened);
      open_already = λ was. rw (eq-eqb before opened was);
      not_opened = λ is. rw (ne_eqb after opened is) (if_second (not (eqb before opened)) (one_more count) count);
    }

-- and no other number is: one of the four holds
one_count : (count before after x y : ℕ) → OpenCount count before after x → OpenCount count before after y → x ≡ y
one_count count before after x y p q =
    ⊎_elim
    (λ was. p.open_already (eqb-true before opened was) ∙ sym (q.open_already (eqb-true before opened was)))
    (λ was. ⊎_elim
    (λ is. ⊎_elim
    (λ low. p.opening (eqb-false before opened was) (eqb-true after opened is) low ∙ sym (q.opening (eqb-false before opened was) (eqb-true after opened is) low))
    (λ high. p.full high ∙ sym (q.full high))
    (below_or_not count 32))
    (λ is. p.not_opened (eqb-false after opened is) ∙ sym (q.not_opened (eqb-false after opened is)))
    (either (eqb after opened)))
    (either (eqb before opened))

pub open_count : (count before after then : ℕ) → (then ≡ open_after count before after) ↔ OpenCount count before after then
open_count count before after then = (
  λ e. rw e (open_count_is count before after),
  λ o. one_count count before after then _ o (open_count_is count before after),
)
