-- `session_lines` is the report of a session. The invariant: the text has the lines of the notes so far, and they are short.
-- Assumes nothing.
use mathlib.Core.Path.{◌≡◌, ◌∙◌}
use borrow.Author.Rules.{rules}
use lib.ListN.{length}
use Rattle.session.proofs.Lists.{length_of_image}
use Rattle.session.proofs.Putting.{asked_there}
use Rattle.report.proofs.Lines.{none_yet, place_is, asked_more, all_lines}
use Rattle.report.proofs.session_lines.Goals as goal

pub loop-index-init : goal.loop-index-init
loop-index-init c = none_yet _ _ c.empty-text.ensures

pub loop-index-preserved : goal.loop-index-preserved
loop-index-preserved c =
    let asked = c.ask_at in
    let loop = c.loop-index in
    let all : length c.args.session.slots ≡ 32 = search (rules, length_of_image, c.well_formed) in
    asked_more _ loop.index loop.text _ asked.result (search rules) loop.invariant
    (asked.ensures ∙ asked_there _ _ all _ _ (place_is loop.index (search rules))) (search rules) c.with_note-text.ensures

pub returns : goal.returns
returns c = all_lines _ c.loop-index.index _ (search rules) (search rules) c.loop-index.invariant
