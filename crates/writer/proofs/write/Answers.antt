-- `write` refuses in the order of the table, and lays the line of slot after slot. Assumes nothing.
use borrow.Author.Rules.{rules}
use mathlib.Core.Path.{refl}
use native.Mathlib.Omega.{arith}
use Rattle.writing.proofs.Sizes.{header_short}
use Rattle.writer.proofs.Sheets.{told_spoilt, told_none, told_short, told_written, sheet_fits, line_1, passed, line_fits, laid_next, all_laid}
use Rattle.writer.proofs.write.Goals as goal
use Rattle.writer.proofs.write.Goals.{in-Some, in_default}

pub returns-in_err-found : goal.returns-in_err-found
returns-in_err-found c = told_spoilt c.args.s.now c.args.buffer.now _ _ c.from_residual.ensures.1 c.in_err-found.ensures.0

pub returns-then-found-eq0 : goal.returns-then-found-eq0
returns-then-found-eq0 c = told_none c.args.s.now c.args.buffer.now _ c.in_ok-found.ensures.0 (search rules)

pub overflow_add-size : goal.overflow_add-size
overflow_add-size c = let short = header_short c.in_ok-found.found.notes (search rules) in omega (arith, c.in_ok-found.ensures.1)

pub returns-then-buffer-size : goal.returns-then-buffer-size
returns-then-buffer-size c = told_short c.args.s.now c.args.buffer.now _ c.in_ok-found.ensures.0 (search rules) _ c.header_size.ensures (search rules)

pub loop-index-init : goal.loop-index-init
loop-index-init c = line_1 c.args.s.now c.args.buffer.now _ c.in_ok-found.ensures.0 _ _ c.put_header-at.ensures

pub overflow_add-at : goal.overflow_add-at
overflow_add-at c =
    let fit = sheet_fits c.args.s.now c.args.buffer.now _ c.in_ok-found.ensures.0 (search rules) _ c.header_size.ensures (search rules) in
    let next = line_fits c.args.s.now c.args.buffer.now _ refl _ _ _ c.loop-index.invariant c.loop-index-test.true _ c.in-Some.ensures fit _ c.put_line-at.ensures.0 in
    search rules

pub loop-index-preserved : goal.loop-index-preserved
loop-index-preserved c =
    let fit = sheet_fits c.args.s.now c.args.buffer.now _ c.in_ok-found.ensures.0 (search rules) _ c.header_size.ensures (search rules) in
    elim c.match-entry_at.branch [
      | in-Some w ↦ rw (w.at-is, w.buffer-is) (laid_next c.args.s.now c.args.buffer.now _ refl _ _ _ c.loop-index.invariant c.loop-index-test.true _ w.in-Some.ensures fit _ _ w.put_line-at.ensures)
      | in_default w ↦ rw (w.at-is, w.buffer-is) (passed c.args.s.now c.args.buffer.now _ refl _ _ _ c.loop-index.invariant c.loop-index-test.true w.in_default.ensures)
    ]

pub returns : goal.returns
returns c =
    told_written c.args.s.now c.args.buffer.now _ c.in_ok-found.ensures.0 (search rules) _ c.header_size.ensures (search rules) _
    (all_laid c.args.s.now c.args.buffer.now _ _ _ c.loop-index.invariant c.loop-index-test.false)
