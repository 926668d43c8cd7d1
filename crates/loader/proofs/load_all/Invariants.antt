-- The notes in turn: those before this one are loaded.
use Rattle.std.proofs.Common.{◌≡◌, ◌-◌, length}
use Rattle.loader.specs.Loading.{LoadedTo}
use Rattle.loader.proofs.load_all.Given as goal

abbrev pub invariant-loop-note : goal.invariant-loop-note
invariant-loop-note g l = record { slots : length l.session.slots ≡ 32; loaded : LoadedTo l.initial.session (l.note - 1) l.session }
