use native.Mathlib.Omega.{arith}
use Rattle.sheet.proofs.Verdicts.{no_header, first_line}
use Rattle.sheet.proofs.judged.Goals as goal

pub returns-in_err-header : goal.returns-in_err-header
returns-in_err-header c = grind (arith, no_header c.args.text.now c.args.at c.header_at.result c.header_at.ensures)

pub loop-line-init : goal.loop-line-init
loop-line-init c = grind (arith, first_line c.args.text.now c.args.at c.header_at.result c.header_at.ensures)
