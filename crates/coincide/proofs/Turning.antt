-- What turning the ring of sixteen words means: the laws that docs/PROMISES.md names. Assumes nothing.
use mathlib.Core.Path.{◌≡◌, sym, ap, ◌∙◌, subst}
use mathlib.Core.Logic.{⊎_elim}
use mathlib.Core.List.{List}
use Prim.Native.Nat.{ℕ, ◌+◌, ◌-◌, ◌%◌, ◌<◌, ◌≤◌}
use native.Mathlib.Nat.{eq-or-lt_of_le}
use native.Mathlib.Omega.{arith}
use lib.ListN.{length, get_or, set}
use lib.Seq.{get_or-set_same, get_or-set_other}
use Rattle.standard.specs.Promises.{W}
use Rattle.folding.specs.Ring.{Ring, IsWord, Turned}

-- the next word is laid over the oldest
pub turned_over : (j x : ℕ) (w : List ℕ) → length w ≡ 16 → IsWord (j + 16) w x → Turned j w (set w (j % 16) x)
turned_over j x w size is B r =
    record {
      holds = λ k low high there.
          ⊎_elim
          (λ newest. let place : k % 16 ≡ j % 16 = omega arith in
          ap (λ (i : ℕ). get_or (set w (j % 16) x) i 0) place ∙ get_or-set_same w (j % 16) x 0 (omega arith) ∙ is B (subst (λ (i : ℕ). Ring B i w) back r) ∙ ap (W B) (sym newest))
          (λ older. get_or-set_other w (j % 16) (k % 16) x 0 (λ e. omega arith) ∙ r.holds k (omega arith) older there)
          (eq-or-lt_of_le (at_most k high));
    }
  where
    back : j ≡ j + 16 - 16
    back = omega arith

    at_most : (k : ℕ) → k < j + 1 + 16 → k ≤ j + 16
    at_most k h = omega arith

-- and past the last word the ring stays
pub turned_none : (j : ℕ) (w : List ℕ) → 52 ≤ j → Turned j w w
turned_none j w h B r = record { holds = λ k low high there. r.holds k (omega arith) (omega arith) there }
