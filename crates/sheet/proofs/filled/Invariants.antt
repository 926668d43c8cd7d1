-- `filled` lists note after note. The invariant: the session of all lines is that of the lines that are left over the one reached.
-- Assumes nothing.
use Prim.Native.Nat.{◌-◌}
use mathlib.Core.Path.{◌≡◌}
use Rattle.session.specs.Sessions.{empty_session}
use Rattle.sheet.specs.Judging.{entries_at, with_notes}
use Rattle.sheet.proofs.Filling.{of_slots}
use Rattle.sheet.proofs.filled.Given as goal

abbrev pub invariant-loop : goal.invariant-loop
invariant-loop l =
    with_notes empty_session (entries_at l.notes l.text l.at) ≡ with_notes (of_slots l.slots) (entries_at (l.notes - l.counter) l.text l.next)
