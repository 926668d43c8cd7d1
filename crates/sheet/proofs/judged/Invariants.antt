-- `judged` finds the first bad line. The invariant: the verdict is that on the lines that are left, from the place and the note reached.
-- Assumes nothing.
use Prim.Native.Nat.{◌-◌}
use mathlib.Core.Path.{◌≡◌}
use Rattle.sheet.specs.Judging.{judged, judged_notes}
use Rattle.sheet.proofs.judged.Given as goal

abbrev pub invariant-loop-line : goal.invariant-loop-line
invariant-loop-line l = judged l.text l.at ≡ judged_notes (l.line-end - l.line-counter) l.text l.next l.line-counter l.last
