-- `with_note` puts a listed note's line behind a text. Assumes nothing.
use mathlib.Core.Path.{sym, ap, ◌∙◌}
use borrow.Author.Rules.{rules}
use Rattle.texts.specs.Texts.{with_part, said}
use Rattle.texts.proofs.Parts.{part_none, said_bytes}
use Rattle.report.specs.Report.{note_line}
use Rattle.report.proofs.Lines.{listed, not_listed}
use Rattle.report.proofs.with_note.Goals as goal

pub returns-then-a-ne-ACCEPTED : goal.returns-then-a-ne-ACCEPTED
returns-then-a-ne-ACCEPTED c =
    let args = c.args in
    sym (ap (with_part args.text) (not_listed args.note args.a (search rules)) ∙ part_none args.text)

pub returns : goal.returns
unfolding said
returns c =
    let args = c.args in
    let made = c.note_line-line in
    let cut = ap said made.ensures ∙ said_bytes (note_line args.note args.a) in
    c.with.ensures ∙ ap (with_part args.text) (cut ∙ sym (listed args.note args.a (search rules)))
