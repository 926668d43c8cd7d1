-- A byte, a list behind it and a list of eight behind that, stored one after the other. Assumes nothing.
use Prim.Native.Nat.{ℕ, ◌+◌, ◌-◌, ◌≤◌, ◌<◌}
use mathlib.Core.Path.{◌≡◌, ap, ◌∙◌}
use mathlib.Core.List.{List, [], ◌∷◌, ◌++◌, append_assoc}
use native.Mathlib.Numerals.{add-one}
use native.Mathlib.Omega.{arith}
use borrow.Rule.Slice.PartMut.{put_mid}
use lib.ListN.{length, take, drop, set, length-set}
use lib.Seq.{drop-drop, take-suc-set, drop-set-lt}
use Rattle.std.proofs.lemmas.Slice.{take-put_mid, drop-put_mid}

-- v at `from`, the list z up to `to`, and there the list n
pub closed : (d z n : List ℕ) (from to v k : ℕ) → from < to → length z ≡ to - (from + 1) → length n ≡ 8 → k ≡ 8 → to + 8 ≤ length d
    → put_mid to k (put_mid (from + 1) (to - (from + 1)) (set d from v) z) n ≡ take from d ++ ((v ∷ (z ++ n)) ++ drop (to + 8) d)
closed d z n from to v k h long eight k8 l =
    let marked = set d from v in
    let there : length marked ≡ length d = length-set d from v in
    let cleared = put_mid (from + 1) (to - (from + 1)) marked z in
    let front : take to cleared ≡ (take from d ++ (v ∷ [])) ++ z =
    take-put_mid (from + 1) (to - (from + 1)) marked z to (omega arith) (omega arith)
    ∙ ap (λ t. t ++ z) (rw add-one (take-suc-set d from v (omega arith))) in
    let later : drop to cleared ≡ drop to d =
    drop-put_mid (from + 1) (to - (from + 1)) marked z to (omega arith) (omega arith) long
    ∙ drop-set-lt to d from v (omega arith) in
    rw (front, later, k8, drop-drop 8 to d) (simp append_assoc)
