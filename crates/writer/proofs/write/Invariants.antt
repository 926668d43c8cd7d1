-- `write` lays the line of slot after slot. The invariant: line 1 and those of so many slots are laid. Assumes nothing.
use Rattle.writer.proofs.Sheets.{Laid}
use Rattle.writer.proofs.write.Given as goal

abbrev pub invariant-loop-index : goal.invariant-loop-index
invariant-loop-index l = Laid l.s l.fn.buffer l.at l.index l.buffer
