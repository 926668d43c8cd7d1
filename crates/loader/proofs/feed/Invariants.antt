-- So far by full pieces alone. What is missing of the sample falls.
use Rattle.loader.proofs.Feeding.{missing, FedSlot}
use Rattle.loader.proofs.feed.Given as goal

abbrev pub invariant-loop-piece : goal.invariant-loop-piece
invariant-loop-piece g l = FedSlot l.note l.initial.now l.now

abbrev pub decreases-loop-piece : goal.decreases-loop-piece
decreases-loop-piece g l = missing l.now
