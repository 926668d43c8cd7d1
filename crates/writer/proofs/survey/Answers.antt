-- `survey` goes through the slots. Assumes nothing.
use borrow.Author.Rules.{rules}
use mathlib.Core.Path.{refl}
use Rattle.writer.proofs.Surveys.{begun, skipped, counted, spoilt, surveyed}
use Rattle.writer.proofs.survey.Goals as goal

pub loop-index-init : goal.loop-index-init
loop-index-init c = begun c.args.s.now

pub loop-index-preserved-in_default : goal.loop-index-preserved-in_default
loop-index-preserved-in_default c = skipped c.args.s.now _ refl _ _ c.loop-index.invariant c.loop-index-test.true c.in_default.ensures

pub returns-then-not-slot_in_order : goal.returns-then-not-slot_in_order
returns-then-not-slot_in_order c =
    (spoilt c.args.s.now _ refl _ _ c.loop-index.invariant c.loop-index-test.true _ c.in-Some.ensures _ c.slot_in_order.ensures (search rules), tt)

pub loop-index-preserved : goal.loop-index-preserved
loop-index-preserved c =
    counted c.args.s.now _ refl _ _ c.loop-index.invariant c.loop-index-test.true _ c.in-Some.ensures _ c.slot_in_order.ensures (search rules) _ c.size_of.ensures

pub returns : goal.returns
returns c = surveyed c.args.s.now _ _ c.loop-index.invariant c.loop-index-test.false
