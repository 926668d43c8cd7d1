-- `session_lines` is the report of a session. The invariant: the text has the lines of the notes so far, and they are short.
-- Assumes nothing.
use Rattle.report.proofs.Lines.{LinesTo}
use Rattle.report.proofs.session_lines.Given as goal

abbrev pub invariant-loop-index : goal.invariant-loop-index
invariant-loop-index l = LinesTo l.fn.session l.index l.text
