-- `figures`: one more than the highest power of ten in the number. Assumes nothing.
use native.Mathlib.Omega.{arith}
use borrow.Author.Rules.{rules}
use Rattle.writing.proofs.Sizes.{so_many_figures}
use Rattle.writing.proofs.figures.Goals as goal

pub returns : goal.returns
returns c = search (rules, arith, so_many_figures)
