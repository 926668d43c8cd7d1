-- Update: document 01, "The hash state". Order of refusals: 9, 10; "state same".
use Rattle.std.specs.Prelude.{ℕ, ◌+◌, ◌-◌, List, ◌++◌, cond, ltb, length}
use Rattle.refusal.specs.Table.{accepted, state_not_in_order, too_long}
use Rattle.standard.specs.Standard.{folded, rest}
use Rattle.units.specs.Units.{longest}
use Rattle.hash.specs.State.{kept, in_order, as_tail}
use Rattle.hash.specs.declared.Hash.{Hash}
use Rattle.hash.specs.declared.Updated.{Updated}

-- "fold the kept bytes followed by the piece, block by block, from the eight words", and keep what remains
unfoldable pub after_piece : Hash → List ℕ → Hash
after_piece h piece =
    record {
      words = folded h.words (kept h ++ piece);
      total = h.total + length piece;
      tail = as_tail (rest (kept h ++ piece));
    }

unfoldable pub update : Hash → List ℕ → Updated
update h piece =
    cond (in_order h)
    (cond (ltb (longest - h.total) (length piece)) (record { number = too_long; state = h })
    (record { number = accepted; state = after_piece h piece }))
    (record { number = state_not_in_order; state = h })
