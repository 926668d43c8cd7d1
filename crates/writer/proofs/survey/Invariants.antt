-- `survey` goes through the slots. The invariant: what is found is what so many come to. Assumes nothing.
use Rattle.writer.proofs.Surveys.{Surveyed}
use Rattle.writer.proofs.survey.Given as goal

abbrev pub invariant-loop-index : goal.invariant-loop-index
invariant-loop-index l = Surveyed l.s l.found l.index
