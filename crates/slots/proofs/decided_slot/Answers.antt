-- `decided_slot` decides a note. Assumes nothing.
use Rattle.slots.proofs.Deliver.{decided_told}
use Rattle.slots.proofs.decided_slot.Goals.{then-same, else-same}
use Rattle.slots.proofs.decided_slot.Goals as goal

pub returns : goal.returns
returns c =
    decided_told c.args.s c.args.h c.matches.result c.matches.ensures _ c.fresh.ensures _
    (elim c.if-same.branch [
      | then-same w ↦ rw (w.result-is, ← w.if-same.ensures)
      | else-same w ↦ rw (w.result-is, ← w.if-same.ensures)
    ])
