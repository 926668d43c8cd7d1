-- Pieces given one after the other go into the inner state; and the code at the end. Assumes nothing.
use mathlib.Core.Path.{◌≡◌, refl, ap, ◌∙◌}
use Prim.Native.Nat.{ℕ, ◌+◌, ◌≤◌}
use native.Mathlib.Omega.{arith}
use mathlib.Core.Bool.{true}
use mathlib.Core.List.{List, [], ◌∷◌, ◌++◌}
use lib.ListN.{length, replicate, length-append}
use Rattle.refusal.specs.Table.{accepted}
use Rattle.units.specs.Units.{longest}
use Rattle.hash.specs.Sm3.{sm3}
use Rattle.hash.specs.State.{fresh}
use Rattle.hash.specs.Update.{after_piece}
use Rattle.hash.specs.Cutting.{joined}
use Rattle.hash.proofs.State.{inOrder_fresh}
use Rattle.hash.proofs.Taking.{afterPiece_nil, afterPiece_join, total_afterPiece}
use Rattle.hash.proofs.Updating.{update_takes as hash_takes}
use Rattle.hash.proofs.Cutting.{finish_fresh}
use Rattle.hash.proofs.Refusing.{length_sm3}
use Rattle.mac.specs.Hmac.{hmac}
use Rattle.mac.specs.Codes.{started, in_order, update, finish}
use Rattle.mac.specs.Cutting.{after_all_of, numbers_of}
use Rattle.mac.specs.declared.Code.{Code}
use Rattle.mac.proofs.States.{parts_in_order, update_takes, inOrder_taken, inOrder_started, finish_outer, inside, outside, length_inside, length_outside, started_taken, total_started, taken_in_order, taken_total}

-- the state with a piece in its inner
abbrev pub fed : Code → List ℕ → Code
fed c piece = record { inner = after_piece c.inner piece; outer = c.outer }

-- every piece is taken, and together they are taken as the joined piece
pub all_pieces : (c : Code) (pieces : List (List ℕ)) → in_order c ≡ true → c.inner.total + length (joined pieces) ≤ longest
    → (numbers_of update c pieces ≡ replicate (length pieces) accepted) × (after_all_of update c pieces ≡ fed c (joined pieces))
unfolding joined after_all_of numbers_of
all_pieces c [] o fits = (refl, rw (afterPiece_nil c.inner (parts_in_order c o).0))
all_pieces c (x ∷ pieces) o fits =
    let l : length (x ++ joined pieces) ≡ length x + length (joined pieces) = length-append x (joined pieces) in
    let more : (fed c x).inner.total ≡ c.inner.total + length x = total_afterPiece c.inner x in
    let i = all_pieces (fed c x) pieces (inOrder_taken c x o (omega arith)) (omega arith) in
    rw (update_takes c x o (omega arith), ← afterPiece_join c.inner (parts_in_order c o).0 x (joined pieces))
    (ap (λ (r : List ℕ). accepted ∷ r) i.0, i.1)

module _ (key m : List ℕ) (fits : 64 + length m ≤ longest) where
  -- what the two states have taken in the end
  inner_taken : after_piece (after_piece fresh (inside key)) m ≡ after_piece fresh (inside key ++ m)
  inner_taken = afterPiece_join fresh inOrder_fresh (inside key) m

  outer_taken : (d : List ℕ) → after_piece (after_piece fresh (outside key)) d ≡ after_piece fresh (outside key ++ d)
  outer_taken d = afterPiece_join fresh inOrder_fresh (outside key) d

  pub finish_started : finish (fed (started key) m) ≡ record { number = accepted; bytes = hmac key m }
  unfolding hmac
  finish_started =
      let d = sm3 (inside key ++ m) in
      let o = inOrder_taken (started key) m (inOrder_started key) (omega (arith, total_started key)) in
      finish_outer (fed (started key) m) o
      ∙ rw (started_taken key, inner_taken, finish_fresh (inside key ++ m) (omega (arith, length-append (inside key) m, length_inside key)))
      (rw (hash_takes (after_piece fresh (outside key)) d (taken_in_order (outside key) (length_outside key)) (omega (arith, taken_total (outside key) (length_outside key), length_sm3 (inside key ++ m))), outer_taken d)
      (finish_fresh (outside key ++ d) (omega (arith, length-append (outside key) d, length_outside key, length_sm3 (inside key ++ m)))))
