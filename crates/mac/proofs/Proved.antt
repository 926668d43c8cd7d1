-- Every promise of the crate, proved. Assumes nothing.
use mathlib.Core.Path.{◌≡◌, refl, sym, ◌∙◌}
use Prim.Native.Nat.{ℕ, ◌+◌, ◌≤◌}
use native.Mathlib.Omega.{arith}
use mathlib.Core.List.{List, [], ◌∷◌}
use lib.ListN.{length}
use Rattle.units.specs.Units.{longest}
use Rattle.hash.specs.Cutting.{joined}
use Rattle.hash.proofs.State.{total_le}
use Rattle.hash.proofs.Taking.{total_afterPiece, afterPiece_nil}
use Rattle.mac.specs.Hmac.{ipad, opad, hmac}
use Rattle.mac.specs.Codes.{started, start, update, finish}
use Rattle.mac.specs.Cutting.{after_all_of, numbers_of}
use Rattle.mac.specs.Promises.{Promises, key_state, IsHmac, InOrder, AnyCuttingOf, PastLongest, OneCall, PieceByPiece, EmptyPiece, AtLongest, Cut}
use Rattle.mac.specs.declared.Code.{Code}
use Rattle.mac.specs.declared.CodeUpdated.{CodeUpdated}
use Rattle.mac.proofs.Blocks.{key_block_lem, xored}
use Rattle.mac.proofs.Telling.{telling, all_updated}
use Rattle.mac.proofs.States.{started_blocks, parts_in_order, in_order_parts, starts_in_order, start_takes, total_started, inOrder_started, inOrder_taken, update_takes, update_passes}
use Rattle.mac.proofs.Cutting.{fed, all_pieces, finish_started}
use Rattle.mac.proofs.Calls.{code_is}
use Rattle.mac.proofs.Tables.{length_hmac, tables, state_compared, message_compared}

is_hmac : (key message : List ℕ) → IsHmac key message (hmac key message)
unfolding hmac ipad opad
is_hmac key m = record { formula = refl; size = length_hmac key m }

in_order_lem : InOrder
in_order_lem c = (parts_in_order c, in_order_parts c)

-- pieces from a key's state
module _ (key : List ℕ) (pieces : List (List ℕ)) (fits : length key ≤ longest) (short : 64 + length (joined pieces) ≤ longest) where
  from_started : (started key).inner.total + length (joined pieces) ≤ longest
  from_started = omega (arith, total_started key)

  after_started : after_all_of update (start key).state pieces ≡ fed (started key) (joined pieces)
  after_started = rw (start_takes key fits) (all_pieces (started key) pieces (inOrder_started key) from_started).1

  finished : finish (after_all_of update (start key).state pieces) ≡ record { number = 0; bytes = hmac key (joined pieces) }
  finished = rw after_started (finish_started key (joined pieces) short)

any_cutting : AnyCuttingOf start update finish
any_cutting key pieces fits short =
    (rw (start_takes key fits) (all_pieces (started key) pieces (inOrder_started key) (from_started key pieces fits short)).0, finished key pieces fits short)

past_longest : PastLongest
past_longest key pieces piece fits short past =
    let m = joined pieces in
    let within = from_started key pieces fits short in
    rw (after_started key pieces fits short)
    (update_passes (fed (started key) m) piece (inOrder_taken (started key) m (inOrder_started key) within)
    (omega (arith, total_afterPiece (started key).inner m, total_started key)))

one_call : OneCall
one_call key pieces fits short = code_is key (joined pieces) fits short ∙ sym (finished key pieces fits short)

piece_by_piece : PieceByPiece
piece_by_piece c pieces o fits =
    let all = all_pieces c pieces o fits in
    (all.0, all.1 ∙ rw (update_takes c (joined pieces) o fits), rw all.1 (inOrder_taken c (joined pieces) o fits))

empty_piece : EmptyPiece
empty_piece c o =
    let i = (parts_in_order c o).0 in
    update_takes c [] o (omega (arith, total_le c.inner i)) ∙ rw (afterPiece_nil c.inner i)

at_longest : AtLongest
at_longest c byte o e = update_passes c (byte ∷ []) o (omega arith)

cut : (updating : Code → List ℕ → CodeUpdated) (c : Code) (piece : List ℕ) (pieces : List (List ℕ)) → Cut updating c piece pieces
unfolding after_all_of numbers_of
cut updating c piece pieces = record { after_none = refl; after_more = refl; number_none = refl; number_more = refl }

empty_state : started [] ≡ key_state []
unfolding ipad opad
empty_state = started_blocks []

pub proved : Promises
proved =
    record {
      key_block_lem = key_block_lem;
      xored = xored;
      is_hmac = is_hmac;
      in_order_lem = in_order_lem;
      empty_key = rw (start_takes [] (omega arith));
      started = starts_in_order;
      any_cutting = any_cutting;
      past_longest = past_longest;
      one_call = one_call;
      codes = code_is;
      piece_by_piece = piece_by_piece;
      empty_piece = empty_piece;
      at_longest = at_longest;
      tables = tables;
      state_compared = state_compared;
      message_compared = message_compared;
      cut = cut;
      telling = telling;
      all_updated = all_updated;
      empty_state = empty_state;
    }
