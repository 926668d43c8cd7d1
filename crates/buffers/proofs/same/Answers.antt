-- `same` says whether its two slices are the same: they are so exactly when no difference was gathered. Assumes nothing.
use Rattle.std.proofs.Common.{ℕ, ◌∙◌, ap, arith, rules}
use lib.Dec.{eqb}
use Rattle.buffers.proofs.Comparing.{other_length, gathered_all}
use Rattle.buffers.proofs.same.Goals as goal

pub returns-then-a-b : goal.returns-then-a-b
returns-then-a-b c =
    ap (λ (d : ℕ). eqb d 0) c.differences.ensures ∙ gathered_all c.args.a.now c.args.b.now 0 (search rules)

pub returns-else-a-b : goal.returns-else-a-b
returns-else-a-b c = grind (arith, other_length)
