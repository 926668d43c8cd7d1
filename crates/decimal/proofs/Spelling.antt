-- The figures that are written: they spell the number, and there are few. Assumes nothing.
use Prim.Native.Nat.{ℕ, zero, suc, ◌+◌, ◌*◌, ◌-◌, ◌/◌, ◌%◌, ◌^◌, ◌<◌, ◌≤◌}
use mathlib.Core.Path.{◌≡◌, refl, sym, ap, ◌∙◌}
use mathlib.Core.List.{List, [], ◌∷◌, ◌++◌}
use native.Mathlib.Nat.{pow-suc}
use native.Mathlib.Decide.{ℕ_discrete}
use native.Mathlib.Omega.{arith}
use borrow.Author.Tests.{eq-eqb, ne_eqb}
use lib.ListN.{length, length-append}
use Rattle.decimal.specs.Numbers.{Decimal, figure, longer}
use Rattle.decimal.specs.Writing.{figures_before, decimal}

-- of 0 there are none, of another number those of its tenth and its last figure
pub before_zero : (most n : ℕ) → n ≡ 0 → figures_before most n ≡ []
unfolding figures_before
before_zero zero n e = refl
before_zero (suc most) n e = rw (eq-eqb n 0 e)

pub before_more : (most n : ℕ) → 1 ≤ n → n ≤ most → figures_before most n ≡ figures_before (most - 1) (n / 10) ++ ((0x30 + n % 10) ∷ [])
unfolding figures_before
before_more zero n some fits = absurd (omega arith)
before_more (suc most) n some fits =
    let less : suc most - 1 ≡ most = omega arith in
    rw (ne_eqb n 0 (λ e. omega arith), less)

-- however much `most` is, where it is enough
pub enough : (most more n : ℕ) → n ≤ most → n ≤ more → figures_before most n ≡ figures_before more n
enough zero more n h k = before_zero zero n (omega arith) ∙ sym (before_zero more n (omega arith))
enough (suc most) more n h k =
    elim (ℕ_discrete n 0) [
      | yes e ↦ before_zero (suc most) n e ∙ sym (before_zero more n e)
      | no some ↦
          let less : suc most - 1 ≡ most = omega arith in
          before_more (suc most) n (omega arith) h
          ∙ rw less (ap (λ (l : List ℕ). l ++ ((0x30 + n % 10) ∷ [])) (enough most (more - 1) (n / 10) (omega arith) (omega arith)))
          ∙ sym (before_more more n (omega arith) k)
    ]

-- the figures before the last one are its tenth's
pub before_is : (most n : ℕ) → 1 ≤ n → n ≤ most → figures_before most n ≡ decimal n
unfolding decimal
before_is most n some fits =
    before_more most n some fits ∙ ap (λ (l : List ℕ). l ++ ((0x30 + n % 10) ∷ [])) (enough (most - 1) n (n / 10) (omega arith) (omega arith))

-- one figure, or more
pub decimal_one : (n : ℕ) → n / 10 ≡ 0 → decimal n ≡ (0x30 + n % 10) ∷ []
unfolding decimal
decimal_one n e = rw (before_zero n (n / 10) e)

pub decimal_more : (n : ℕ) → 1 ≤ n / 10 → decimal n ≡ decimal (n / 10) ++ ((0x30 + n % 10) ∷ [])
unfolding decimal
decimal_more n some = ap (λ (l : List ℕ). l ++ ((0x30 + n % 10) ∷ [])) (before_is n (n / 10) some (omega arith))

-- they spell the number
spells_one : (n : ℕ) → n / 10 ≡ 0 → Decimal (decimal n) n
spells_one n e =
    let small : n % 10 ≡ n = omega arith in
    rw (decimal_one n e, small) (figure n (omega arith))

spells_most : (most n : ℕ) → n ≤ most → Decimal (decimal n) n
spells_most zero n h = spells_one n (omega arith)
spells_most (suc most) n h =
    elim (ℕ_discrete (n / 10) 0) [
      | yes e ↦ spells_one n e
      | no some ↦
          let whole : n / 10 * 10 + n % 10 ≡ n = omega arith in
          rw (decimal_more n (omega arith)) (rw whole at (longer (n % 10) (spells_most most (n / 10) (omega arith)) (omega arith) (omega arith)))
    ]

pub spells : (n : ℕ) → Decimal (decimal n) n
spells n = spells_most n n (omega arith)

-- and a number below 10^k has at most k of them
some_left : (k n : ℕ) → 1 ≤ n → n < 10 ^ k → 1 ≤ k
some_left zero n some below = absurd (omega arith)
some_left (suc k) n some below = omega arith

pub few : (k n : ℕ) → 1 ≤ k → n < 10 ^ k → length (decimal n) ≤ k
few zero n some below = absurd (omega arith)
few (suc k) n some below =
    elim (ℕ_discrete (n / 10) 0) [
      | yes e ↦ rw (decimal_one n e) (omega arith)
      | no more ↦
          let less : n / 10 < 10 ^ k = omega (arith, pow-suc 10 k) in
          let tenth = few k (n / 10) (some_left k (n / 10) (omega arith) less) less in
          rw (decimal_more n (omega arith), length-append (decimal (n / 10)) ((0x30 + n % 10) ∷ [])) (omega arith)
    ]

pub at_least : (n : ℕ) → 1 ≤ length (decimal n)
unfolding decimal
at_least n = rw (length-append (figures_before n (n / 10)) ((0x30 + n % 10) ∷ [])) (omega arith)
