-- `loop_rule` is rule 4. Assumes nothing.
use mathlib.Core.Path.{sym}
use borrow.Author.Tests.{le-leb, lt-leb}
use Rattle.rules.specs.Rules.{loop_rule}
use Rattle.rules.proofs.Rules.{whole_frames}
use Rattle.rules.proofs.loop_rule.Goals as goal

pub returns-then-start-end : goal.returns-then-start-end
unfolding loop_rule
returns-then-start-end c = simp (le-leb _ _ c.if-start-end.true, whole_frames c.args.length.0 c.in-Some.frames (sym c.in-Some.ensures))

pub returns-else-start-end : goal.returns-else-start-end
unfolding loop_rule
returns-else-start-end c = simp (lt-leb _ _ c.if-start-end.false)
