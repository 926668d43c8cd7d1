-- A walk over blocks. Assumes nothing.
use mathlib.Core.Path.{◌≡◌, sym, ap, ap₂, ◌∙◌}
use mathlib.Core.List.{List}
use Prim.Native.Nat.{ℕ, ◌≤◌}
use lib.ListN.{length, take, drop}
use Rattle.standard.specs.declared.Words.{Words}
use Rattle.standard.specs.Standard.{CF, folded}
use Rattle.standard.proofs.Folding.{folded_block}

-- s is still to be folded into r: with its first block b folded into n, what comes after b folds to what the whole folds to
pub walked_on : (v r n : Words) (m s b t : List ℕ) → 64 ≤ length s → folded v m ≡ folded r s → b ≡ take 64 s → t ≡ drop 64 s → n ≡ CF r b
    → folded v m ≡ folded n t
walked_on v r n m s b t h e first after one =
    e ∙ folded_block r s h ∙ sym (ap₂ folded (one ∙ ap (CF r) first) after)
