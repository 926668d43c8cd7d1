-- `refused_line` is a refused sheet's line. Assumes nothing.
use mathlib.Core.List.{[], ◌∷◌}
use native.Mathlib.Omega.{arith}
use Rattle.decimal.specs.Writing.{decimal}
use Rattle.report.specs.Report.{refused_word, refused_line}
use Rattle.report.proofs.Lines.{six_parts, figures}
use Rattle.report.proofs.refused_line.Goals as goal

pub returns : goal.returns
unfolding refused_line refused_word
returns c =
    let args = c.args in
    let n = figures args.number (omega (arith, c.ranges)) in
    let l = figures args.line (omega (arith, c.ranges)) in
    six_parts refused_word (0x09 ∷ []) (decimal args.number) (0x09 ∷ []) (decimal args.line) (0x0a ∷ []) (omega arith)
    c.empty.ensures
    c.with.ensures
    c.with-begun.ensures
    c.with_number.ensures
    c.with-numbered.ensures
    c.with_number-2.ensures
    c.with-2.ensures
