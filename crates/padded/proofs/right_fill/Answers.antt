-- `right_fill` looks at byte m and then at the bytes between it and the last eight. Assumes nothing.
use mathlib.Core.Path.{◌∙◌}
use borrow.Author.Tests.{ne_eqb}
use Rattle.padded.specs.Removing.{right_fill}
use Rattle.padded.proofs.Parts.{then_zeros}
use Rattle.padded.proofs.right_fill.Goals as goal

pub returns-then-bytes-m : goal.returns-then-bytes-m
returns-then-bytes-m c = c.all_zero.ensures ∙ then_zeros _ c.args.m c.if-bytes-m.true c.requires

pub returns-else-bytes-m : goal.returns-else-bytes-m
unfolding right_fill
returns-else-bytes-m c = simp (ne_eqb _ _ c.if-bytes-m.false)
