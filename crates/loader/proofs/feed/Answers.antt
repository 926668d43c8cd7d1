-- `feed` feeds a slot. Assumes nothing.
use native.Mathlib.Omega.{arith}
use borrow.Author.Rules.{rules}
use lib.Seq.{length-take-le}
use Rattle.loader.proofs.Feeding.{fed_none, fed_so_far, fed_whole, fed_shorter, step_fewer}
use Rattle.loader.proofs.feed.Goals as goal

pub loop-piece-init : goal.loop-piece-init
loop-piece-init g c = fed_none _ _

pub returns-then-n-eq0 : goal.returns-then-n-eq0
returns-then-n-eq0 g c = fed_so_far _ _ c.loop-piece.now c.loop-piece.invariant

pub returns-then-step-ne-ACCEPTED : goal.returns-then-step-ne-ACCEPTED
returns-then-step-ne-ACCEPTED g c = fed_so_far _ _ c.loop-piece.now c.loop-piece.invariant

pub returns-then-n-lt-PIECE : goal.returns-then-n-lt-PIECE
returns-then-n-lt-PIECE g c =
    let long = length-take-le _ _ c.read_full-n.ensures in
    fed_shorter _ _ c.loop-piece.now c.loop-piece.invariant _ _ c.deliver_at-step.ensures (search rules) (omega arith) (omega arith)

pub loop-piece-smaller : goal.loop-piece-smaller
loop-piece-smaller g c =
    let long = length-take-le _ _ c.read_full-n.ensures in
    step_fewer _ _ c.loop-piece.now c.loop-piece.invariant _ _ c.deliver_at-step.ensures (search rules) (omega arith)

pub loop-piece-preserved : goal.loop-piece-preserved
loop-piece-preserved g c =
    let long = length-take-le _ _ c.read_full-n.ensures in
    fed_whole _ _ c.loop-piece.now c.loop-piece.invariant _ _ c.deliver_at-step.ensures (search rules) (omega arith)
