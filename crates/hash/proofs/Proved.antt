-- Every promise of the crate, proved. Assumes nothing.
use mathlib.Core.Path.{◌≡◌, refl, sym, ◌∙◌}
use Prim.Native.Nat.{ℕ, ◌+◌, ◌≤◌}
use native.Mathlib.Omega.{arith}
use mathlib.Core.List.{List, [], ◌∷◌}
use lib.ListN.{length}
use Rattle.units.specs.Units.{longest}
use Rattle.hash.specs.Promises.{Promises, Cut, Fresh, AnyCutting, PastLongest, OneCall, FromAnyState, FinalOfAnyState, PieceByPiece, MessageDigest, NoDigest, EmptyPiece, AtLongest}
use Rattle.hash.specs.Sm3.{sm3}
use Rattle.hash.specs.State.{fresh, kept, as_tail}
use Rattle.hash.specs.Update.{after_piece}
use Rattle.hash.specs.Digests.{no_digest}
use Rattle.hash.specs.Cutting.{joined, after_all_of, numbers_of, after_all}
use Rattle.hash.specs.declared.Hash.{Hash}
use Rattle.hash.specs.declared.Updated.{Updated}
use Rattle.hash.proofs.State.{in_order_lem, total_le, inOrder_fresh, isFresh_fresh, fresh_only}
use Rattle.hash.proofs.Taking.{afterPiece_nil, inOrder_afterPiece}
use Rattle.hash.proofs.Updating.{update_takes, update_passes}
use Rattle.hash.proofs.Comparing.{held}
use Rattle.hash.proofs.Refusing.{update_refusals, finish_refusals, digest_refusals, message_compared, state_compared}
use Rattle.hash.proofs.Telling.{telling, all_updated, all_digested, all_compared}
use Rattle.hash.proofs.Cutting.{all_pieces, finish_folds, finish_fresh, digest_sm3}

fresh_state : Fresh
unfolding fresh
fresh_state = (refl, inOrder_fresh, λ h. (fresh_only h, λ e. rw e isFresh_fresh))

-- from the fresh state, pieces that fit
from_fresh : (pieces : List (List ℕ)) → length (joined pieces) ≤ longest → fresh.total + length (joined pieces) ≤ longest
unfolding fresh
from_fresh pieces fits = omega arith

after_fresh : (pieces : List (List ℕ)) → length (joined pieces) ≤ longest → after_all fresh pieces ≡ after_piece fresh (joined pieces)
after_fresh pieces fits = (all_pieces fresh pieces inOrder_fresh (from_fresh pieces fits)).1

any_cutting : AnyCutting
any_cutting pieces fits =
    ((all_pieces fresh pieces inOrder_fresh (from_fresh pieces fits)).0, rw (after_fresh pieces fits) (finish_fresh (joined pieces) fits))

past_longest : PastLongest
unfolding after_piece fresh
past_longest pieces piece fits past =
    rw (after_fresh pieces fits)
    (update_passes (after_piece fresh (joined pieces)) piece (inOrder_afterPiece fresh inOrder_fresh (joined pieces) (from_fresh pieces fits)) (omega arith))

one_call : OneCall
one_call pieces fits = digest_sm3 (joined pieces) fits ∙ sym (any_cutting pieces fits).1

from_any_state : FromAnyState
unfolding after_piece kept as_tail
from_any_state h piece o fits = update_takes h piece o fits

final_of_any_state : FinalOfAnyState
unfolding kept
final_of_any_state h o = finish_folds h o

piece_by_piece : PieceByPiece
piece_by_piece h pieces o fits =
    let all = all_pieces h pieces o fits in
    (all.0, all.1 ∙ rw (update_takes h (joined pieces) o fits), rw all.1 (inOrder_afterPiece h o (joined pieces) fits))

message_digest : MessageDigest
unfolding sm3
message_digest message = refl

cut : (updating : Hash → List ℕ → Updated) (h : Hash) (piece : List ℕ) (pieces : List (List ℕ)) → Cut updating h piece pieces
unfolding joined after_all_of numbers_of
cut updating h piece pieces =
    record { join_none = refl; join_more = refl; after_none = refl; after_more = refl; number_none = refl; number_more = refl }

no_digest_lem : NoDigest
unfolding no_digest
no_digest_lem number = refl

empty_piece : EmptyPiece
empty_piece h o = update_takes h [] o (omega (arith, total_le h o)) ∙ rw (afterPiece_nil h o)

at_longest : AtLongest
at_longest h byte o e = (empty_piece h o, update_passes h (byte ∷ []) o (omega arith))

pub proved : Promises
proved =
    record {
      in_order_lem = in_order_lem;
      fresh_state = fresh_state;
      any_cutting = any_cutting;
      past_longest = past_longest;
      one_call = one_call;
      from_any_state = from_any_state;
      final_of_any_state = final_of_any_state;
      piece_by_piece = piece_by_piece;
      by_update = λ h pieces. (refl, refl);
      message_digest = message_digest;
      empty_piece = empty_piece;
      at_longest = at_longest;
      update_refusals = update_refusals;
      finish_refusals = finish_refusals;
      digests = digest_sm3;
      cut = cut;
      digest_refusals = digest_refusals;
      message_compared = message_compared;
      state_compared = state_compared;
      held = held;
      no_digest_lem = no_digest_lem;
      telling = telling;
      all_updated = all_updated;
      all_digested = all_digested;
      all_compared = all_compared;
    }
