-- Bytes laid in a buffer, one behind the other. Assumes nothing.
use Prim.Native.Nat.{ℕ, suc, ◌+◌, ◌≤◌}
use mathlib.Core.Path.{◌≡◌, sym, ap, ◌∙◌}
use mathlib.Core.List.{List, [], ◌∷◌, ◌++◌, append_assoc}
use mathlib.Core.Logic.{⊎_elim}
use native.Mathlib.Nat.{add-zero}
use native.Mathlib.Numerals.{add-one}
use native.Mathlib.Omega.{arith}
use lib.ListN.{length, set, take, length-set, length-append}
use lib.Seq.{length-paste, take-suc-set, drop-set-lt}
use Rattle.truth.proofs.Tests.{below_or_not}
use Rattle.buffers.specs.Copy.{copied}
use Rattle.buffers.proofs.Copied.{copied_there, copied_fits, copied_not}
use Rattle.buffers.proofs.Zeros.{copied_none}

-- a buffer keeps its length
pub length_copied : (d s : List ℕ) (at : ℕ) → length (copied d at s) ≡ length d
length_copied d s at =
    ⊎_elim (λ past. ap length (copied_not d s at past))
    (λ fits. ap length (copied_fits d s at fits) ∙ length-paste d at s (length s) fits (omega arith))
    (below_or_not (length d) (at + length s))

-- one byte, and the rest behind it
pub one_laid : (d rest : List ℕ) (at x : ℕ) → at + suc (length rest) ≤ length d → copied d at (x ∷ rest) ≡ copied (set d at x) (at + 1) rest
one_laid d rest at x fits =
    copied_there d (x ∷ rest) at (omega arith)
    ∙ (let ends : at + length (x ∷ rest) ≡ at + 1 + length rest = omega arith in
    rw (ends, ← drop-set-lt (at + 1 + length rest) d at x (omega arith))
    (sym (rw (add-one at, take-suc-set d at x (omega arith)) (append_assoc (take at d) (x ∷ []) _))))
    ∙ sym (copied_there (set d at x) rest (at + 1) (omega (arith, length-set d at x)))

-- a part, and the rest behind it
pub part_laid : (d part rest : List ℕ) (at : ℕ) → at + (length part + length rest) ≤ length d
    → copied d at (part ++ rest) ≡ copied (copied d at part) (at + length part) rest
part_laid d [] rest at fits = rw (copied_none d at, add-zero at)
part_laid d (x ∷ part) rest at fits =
    let next : at + suc (length part) ≡ at + 1 + length part = omega arith in
    one_laid d (part ++ rest) at x (omega (arith, length-append part rest))
    ∙ part_laid (set d at x) part rest (at + 1) (omega (arith, length-set d at x))
    ∙ rw (next, one_laid d part at x (omega arith))
