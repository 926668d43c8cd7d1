-- `shown` is what is printed of a folder. Assumes nothing.
use borrow.Author.Rules.{rules}
use Rattle.loader.proofs.Showing.{shows_refused, shows_loaded}
use Rattle.loader.proofs.shown.Goals as goal

pub returns-then-verdict-ne-ACCEPTED : goal.returns-then-verdict-ne-ACCEPTED
returns-then-verdict-ne-ACCEPTED g c =
    let read = c.sheet_of-sheet in shows_refused read.result read.ensures _ (search rules) c.refused_line.ensures

pub returns : goal.returns
returns g c =
    let read = c.sheet_of-sheet in
    shows_loaded read.result read.ensures _ _ (search rules) c.load_all.ensures c.session_lines.ensures
