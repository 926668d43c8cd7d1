-- `read` reads a number. The invariant: the number is the one that goes on from the next reached with the value reached.
-- Assumes nothing.
use Prim.Native.Nat.{◌+◌}
use mathlib.Core.Path.{◌≡◌}
use lib.ListN.{drop}
use Rattle.std.specs.Prelude.{Some}
use Rattle.decimal.specs.Reading.{numeral_at, going_on}
use Rattle.decimal.proofs.read.Given as goal

abbrev pub invariant-loop-byte : goal.invariant-loop-byte
invariant-loop-byte l =
    (l.next ≡ l.at + 1 + l.byte-index) × (numeral_at l.text l.at ≡ Some (going_on l.value l.next (drop l.byte-index l.byte-items)))
