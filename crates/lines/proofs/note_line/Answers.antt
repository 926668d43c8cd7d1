-- `note_line` reads a note line, step by step: the first fault is the line's. Assumes nothing.
use Rattle.lines.proofs.Whole.{whole_line}
use Rattle.lines.proofs.note_line.Goals as goal

pub returns : goal.returns
returns c = whole_line _ _ _ c.in_ok-note.ensures _ c.in_ok-length.ensures _ c.in_ok-start.ensures _ c.in_ok-end.ensures _ c.in_ok-digest.ensures _ c.in_ok-next.ensures
