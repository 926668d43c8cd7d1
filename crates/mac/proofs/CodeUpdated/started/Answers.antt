-- `started` tells a refused key as the empty one. Assumes nothing.
use borrow.Author.Rules.{rules}
use Rattle.mac.proofs.Telling.{empty_starts, started_empty}
use Rattle.mac.proofs.CodeUpdated.started.Goals.{in-Ok, in-Err}
use Rattle.mac.proofs.CodeUpdated.started.Goals as goal

pub unwrap-requires : goal.unwrap-requires
unwrap-requires c = search (rules, empty_starts c.start-in-Err.ensures)

pub returns : goal.returns
returns c =
    elim c.match-start.branch [
      | in-Ok w ↦ rw w.number-is w.in-Ok.ensures
      | in-Err w ↦ rw (w.number-is, w.number.ensures, started_empty w.start-in-Err.ensures w.unwrap.ensures) w.in-Err.ensures
    ]
