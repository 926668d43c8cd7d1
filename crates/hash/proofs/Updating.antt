-- What update answers, by cases: each is cited by its own law, and the text of update by no one else. Assumes nothing.
use mathlib.Core.Path.{◌≡◌}
use Prim.Native.Nat.{ℕ, ◌+◌, ◌-◌, ◌≤◌, ◌<◌}
use native.Mathlib.Omega.{arith}
use mathlib.Core.Bool.{true, false}
use mathlib.Core.List.{List}
use lib.ListN.{length}
use borrow.Author.Tests.{lt-ltb, le-ltb}
use Rattle.refusal.specs.Table.{accepted, state_not_in_order, too_long}
use Rattle.units.specs.Units.{longest}
use Rattle.hash.specs.State.{in_order}
use Rattle.hash.specs.Update.{after_piece, update}
use Rattle.hash.specs.declared.Hash.{Hash}
use Rattle.hash.proofs.State.{total_le}

module _ (h : Hash) (x : List ℕ) where
  pub update_spoilt : in_order h ≡ false → update h x ≡ record { number = state_not_in_order; state = h }
  unfolding update
  update_spoilt o = rw o

  pub update_passes : in_order h ≡ true → longest < h.total + length x → update h x ≡ record { number = too_long; state = h }
  unfolding update
  update_passes o past = rw (o, lt-ltb (longest - h.total) (length x) (omega (arith, total_le h o)))

  pub update_takes : in_order h ≡ true → h.total + length x ≤ longest → update h x ≡ record { number = accepted; state = after_piece h x }
  unfolding update
  update_takes o fits = rw (o, le-ltb (longest - h.total) (length x) (omega arith))

pub ruleset updates = (total_le, update_spoilt, update_passes, update_takes)
