-- `note_line` is a note's line. Assumes nothing.
use mathlib.Core.List.{[], ◌∷◌}
use native.Mathlib.Omega.{arith}
use Rattle.decimal.specs.Writing.{decimal}
use Rattle.report.specs.Report.{word, note_line}
use Rattle.report.proofs.Lines.{six_parts, figures, word_short}
use Rattle.report.proofs.note_line.Goals as goal

pub returns : goal.returns
unfolding note_line
returns c =
    let args = c.args in
    let n = figures args.note (omega (arith, c.ranges)) in
    let w = word_short args.a.status in
    let t = figures args.a.taken (omega (arith, c.well_formed)) in
    six_parts (decimal args.note) (0x09 ∷ []) (word args.a.status) (0x09 ∷ []) (decimal args.a.taken) (0x0a ∷ []) (omega arith)
    c.empty.ensures
    c.with_number.ensures
    c.with-noted.ensures
    (rw c.word.ensures at c.with.ensures)
    c.with-worded.ensures
    c.with_number-2.ensures
    c.with-2.ensures
