-- `size_of`: a line has at most four numbers of ten figures. Assumes nothing.
use mathlib.Core.Path.{sym, subst}
use Prim.Native.Nat.{ℕ, ◌≤◌}
use borrow.Author.Rules.{rules}
use Rattle.writing.proofs.Sizes.{line_short}
use Rattle.writer.proofs.size_of.Goals as goal

pub returns : goal.returns
returns c =
    let size = c.line_size.ensures in
    (size, subst (λ (n : ℕ). n ≤ 109) (sym size) (line_short c.args.e (search rules) (search rules) (search rules) (search rules) (search rules)))
