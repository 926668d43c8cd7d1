-- Pieces given one after the other: what is taken, what is answered, and the digest at the end. Assumes nothing.
use mathlib.Core.Path.{◌≡◌, refl, sym, ap, ◌∙◌}
use Prim.Native.Nat.{ℕ, ◌+◌, ◌≤◌, ◌<◌}
use native.Mathlib.Nat.{zero-add}
use native.Mathlib.Omega.{arith}
use mathlib.Core.Bool.{true, false}
use mathlib.Core.List.{List, [], ◌∷◌, ◌++◌, append_assoc}
use lib.ListN.{length, replicate, length-append}
use borrow.Author.Tests.{lt-ltb, le-ltb}
use Rattle.refusal.specs.Table.{accepted, state_not_in_order, too_long}
use Rattle.standard.specs.Standard.{folded, hash_value}
use Rattle.units.specs.Units.{longest}
use Rattle.padding.specs.Padding.{padding, padded}
use Rattle.hash.specs.Sm3.{sm3}
use Rattle.hash.specs.State.{fresh, kept, in_order}
use Rattle.hash.specs.Update.{after_piece}
use Rattle.hash.specs.Cutting.{joined, after_all_of, numbers_of, after_all, numbers}
use Rattle.hash.specs.Digests.{finish, digest, no_digest}
use Rattle.hash.specs.declared.Hash.{Hash}
use Rattle.standard.proofs.Folding.{folded_join}
use Rattle.hash.proofs.State.{inOrder_fresh}
use Rattle.hash.proofs.Taking.{afterPiece_nil, afterPiece_join, kept_afterPiece, inOrder_afterPiece}
use Rattle.hash.proofs.Updating.{update_takes}

-- every piece is taken, and together they are taken as the joined piece
pub all_pieces : (h : Hash) (pieces : List (List ℕ)) → in_order h ≡ true → h.total + length (joined pieces) ≤ longest
    → (numbers h pieces ≡ replicate (length pieces) accepted) × (after_all h pieces ≡ after_piece h (joined pieces))
unfolding joined after_all_of numbers_of after_piece
all_pieces h [] o fits = (refl, sym (afterPiece_nil h o))
all_pieces h (x ∷ pieces) o fits =
    let l : length (x ++ joined pieces) ≡ length x + length (joined pieces) = length-append x (joined pieces) in
    let i = all_pieces (after_piece h x) pieces (inOrder_afterPiece h o x (omega arith)) (omega arith) in
    rw (update_takes h x o (omega arith), ← afterPiece_join h o x (joined pieces)) (ap (λ (r : List ℕ). accepted ∷ r) i.0, i.1)

-- what final answers, by cases
pub finish_spoilt : (h : Hash) → in_order h ≡ false → finish h ≡ no_digest state_not_in_order
unfolding finish
finish_spoilt h o = rw o

pub finish_folds : (h : Hash) → in_order h ≡ true
    → finish h ≡ record { number = accepted; bytes = hash_value (folded h.words (kept h ++ padding h.total)) }
unfolding finish
finish_folds h o = rw o

-- final after a piece
pub finish_afterPiece : (h : Hash) (x : List ℕ) → in_order h ≡ true → h.total + length x ≤ longest
    → finish (after_piece h x) ≡ record { number = accepted; bytes = hash_value (folded h.words (kept h ++ (x ++ padding (h.total + length x)))) }
unfolding after_piece
finish_afterPiece h x o fits =
    let p = padding (h.total + length x) in
    finish_folds (after_piece h x) (inOrder_afterPiece h o x fits)
    ∙ rw (kept_afterPiece h o x, ← folded_join h.words (kept h ++ x) p, append_assoc (kept h) x p)

-- what the one call answers, by cases
pub digest_passes : (m : List ℕ) → longest < length m → digest m ≡ no_digest too_long
unfolding digest
digest_passes m past = rw (lt-ltb longest (length m) past)

pub digest_sm3 : (m : List ℕ) → length m ≤ longest → digest m ≡ record { number = accepted; bytes = sm3 m }
unfolding digest
digest_sm3 m fits = rw (le-ltb longest (length m) fits)

-- from the fresh state
pub finish_fresh : (m : List ℕ) → length m ≤ longest → finish (after_piece fresh m) ≡ record { number = accepted; bytes = sm3 m }
unfolding sm3 padded fresh kept
finish_fresh m fits = finish_afterPiece fresh m inOrder_fresh (omega arith) ∙ rw (zero-add (length m))
