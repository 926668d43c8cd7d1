-- `filled` lists note after note. Assumes nothing.
use Rattle.sheet.proofs.Filling.{lists_first, lists_all}
use Rattle.sheet.proofs.filled.Goals as goal

pub loop-init : goal.loop-init
loop-init c = lists_first _ _ _ _ c.empty_slot-none.ensures

pub returns : goal.returns
returns c = lists_all _ _ _ _ _ _ _ c.loop-test.false c.loop.invariant
