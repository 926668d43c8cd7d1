-- Zeros put over bytes, and nothing put. Assumes nothing.
use Prim.Native.Nat.{ℕ, ◌-◌, ◌<◌, ◌≤◌}
use mathlib.Core.Path.{◌≡◌, ◌∙◌}
use mathlib.Core.List.{List, []}
use mathlib.Core.Logic.{⊎_elim}
use native.Mathlib.Nat.{add-zero}
use native.Mathlib.Omega.{arith}
use lib.ListN.{length, replicate, length-replicate, take-append-drop}
use Rattle.truth.proofs.Tests.{below_or_not}
use Rattle.buffers.specs.Copy.{copied}
use Rattle.buffers.proofs.Copied.{copied_there, copied_not}

-- no bytes put, wherever
pub copied_none : (d : List ℕ) (i : ℕ) → copied d i [] ≡ d
copied_none d i =
    ⊎_elim (λ past. copied_not d [] i (omega arith))
    (λ within. copied_there d [] i (omega arith) ∙ rw (add-zero i) (take-append-drop i d))
    (below_or_not (length d) i)

pub all_cleared : (d : List ℕ) (i to : ℕ) → to ≤ i → copied d i (replicate (to - i) 0) ≡ d
all_cleared d i to done =
    let none : to - i ≡ 0 = omega arith in
    rw none (copied_none d i)

-- an index past the end: nothing is put
pub cleared_not : (d : List ℕ) (from to : ℕ) → length d < to → copied d from (replicate (to - from) 0) ≡ d
cleared_not d from to past = copied_not d (replicate (to - from) 0) from (omega (arith, length-replicate {A = ℕ} (to - from) 0))
