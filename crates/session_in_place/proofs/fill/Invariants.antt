-- `fill` lists note after note. The invariant: the session of all lines is that of the lines that are left over the one reached.
-- Assumes nothing.
use Rattle.std.proofs.Common.{◌≡◌, ◌-◌}
use Rattle.sheet.specs.Judging.{entries_at, with_notes}
use Rattle.session_in_place.proofs.fill.Given as goal

abbrev pub invariant-loop : goal.invariant-loop
invariant-loop l =
    with_notes l.initial.s (entries_at l.notes l.text l.at) ≡ with_notes l.s (entries_at (l.notes - l.counter) l.text l.next)
