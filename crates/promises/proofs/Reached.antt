-- The slot of a listed note, by the bytes that were accepted for it: what a delivery does to it, and what asking gives.
use mathlib.Core.Path.{◌≡◌, refl, sym, ◌∙◌}
use mathlib.Core.List.{List, [], ◌++◌}
use mathlib.Core.Bool.{Bool, true, false, cond}
use Prim.Native.Nat.{ℕ, ◌+◌, ◌%◌, ◌≤◌, ◌<◌}
use native.Mathlib.Omega.{arith}
use native.Mathlib.Nat.{zero-add}
use lib.Dec.{ltb, eqb}
use lib.ListN.{length, length-append}
use borrow.Author.Tests.{lt-ltb, le-ltb, ltb-true, ltb-false, eqb-false}
use Rattle.refusal.specs.Table.{accepted, decided, past_length}
use Rattle.buffers.specs.Same.{same}
use Rattle.truth.proofs.Tests.{first}
use Rattle.units.specs.Units.{longest}
use Rattle.hash.specs.Sm3.{sm3}
use Rattle.hash.specs.State.{fresh, in_order}
use Rattle.hash.specs.Update.{after_piece, update}
use Rattle.hash.specs.Digests.{compare_state}
use Rattle.hash.proofs.State.{inOrder_fresh, isFresh_fresh}
use Rattle.hash.proofs.Taking.{afterPiece_nil, afterPiece_join, inOrder_afterPiece}
use Rattle.hash.proofs.Updating.{update_takes}
use Rattle.hash.proofs.Cutting.{finish_fresh}
use Rattle.hash.proofs.Comparing.{compared_same}
use Rattle.rules.specs.Rules.{good_loop, obeys}
use Rattle.slots.specs.Slots.{none, waiting, is_decided, state_in_order, slot_in_order, bytes_taken, waiting_slot}
use Rattle.slots.specs.Delivery.{as_it_stands, decided_slot, with_piece, deliver_to, ask_of}
use Rattle.rules.proofs.Rules.{length_rule_is}
use Rattle.slots.proofs.Deliver.{is_decided_lem, runs_past as slot_runs_past, is_taken, waits_on, decides, asked as slot_asked}
use Rattle.rules.specs.declared.Record.{Record}
use Rattle.slots.specs.declared.Slot.{Slot}
use Rattle.promises.specs.Demand3.{decided_status}
use Rattle.promises.proofs.LineRecord.{LineRecord}

-- waiting, with these bytes taken; decided, by these bytes
waits_with : Record → List ℕ → Slot
waits_with r b = record { sample = r; state = after_piece fresh b; status = waiting }

decided_by : Record → List ℕ → Slot
decided_by r b = record { sample = r; state = fresh; status = decided_status r b }

-- the slot of a note with record r for which the bytes b were accepted
pub reached : Record → List ℕ → Slot
reached r b = cond (ltb (length b) r.length) (waits_with r b) (decided_by r b)

-- its record is the line's, waiting or decided; decided, its state is fresh
pub reached_line : (r : Record) (b : List ℕ) → (reached r b).sample ≡ r
unfolding reached waits_with decided_by
reached_line r b = go (ltb (length b) r.length)
  where
    go : (t : Bool) → (cond t (waits_with r b) (decided_by r b)).sample ≡ r
    go true = refl
    go false = refl

pub reached_fresh : (r : Record) (b : List ℕ) → r.length ≤ length b → (reached r b).state ≡ fresh
unfolding reached decided_by
reached_fresh r b h = rw (le-ltb (length b) r.length h)

-- what holds of both statuses that a decision may give holds of it: it is open or shut, and neither is waiting
either : (f : ℕ → Bool) (c t : Bool) (x y : ℕ) → f x ≡ c → f y ≡ c → f (cond t x y) ≡ c
either f c true x y h k = h
either f c false x y h k = k

module _ (r : Record) (b : List ℕ) where
  status_decided : is_decided (decided_status r b) ≡ true
  unfolding is_decided decided_status
  status_decided = either is_decided true (same (sm3 b) r.digest) _ _ refl refl

  status_not_waiting : eqb (decided_status r b) waiting ≡ false
  unfolding decided_status
  status_not_waiting = either (λ status. eqb status waiting) false (same (sm3 b) r.digest) _ _ refl refl

  status_not_none : eqb (decided_status r b) none ≡ false
  unfolding decided_status
  status_not_none = either (λ status. eqb status none) false (same (sm3 b) r.digest) _ _ refl refl

total_afterPiece : (b : List ℕ) → (after_piece fresh b).total ≡ length b
unfolding after_piece fresh
total_afterPiece b = zero-add (length b)

module _ (r : Record) (line : LineRecord r) where
  line_range : (r.length % 2 ≡ 0) × (2 ≤ r.length) × (r.length ≤ 4294967294)
  unfolding obeys
  line_range = (length_rule_is r.length).0 (first _ (good_loop r) line.rules)

  module _ (b : List ℕ) where
    -- no sample is longer than a message may be
    fits_longest : length b ≤ r.length → fresh.total + length b ≤ longest
    unfolding fresh
    fits_longest h = omega (arith, line_range.2)

    in_order_afterPiece : length b ≤ r.length → in_order (after_piece fresh b) ≡ true
    in_order_afterPiece h = inOrder_afterPiece fresh inOrder_fresh b (fits_longest h)

    in_order_waits : length b < r.length → slot_in_order (waits_with r b) ≡ true
    unfolding slot_in_order state_in_order waits_with
    in_order_waits h = rw (line.rules, in_order_afterPiece (omega arith), total_afterPiece b, lt-ltb (length b) r.length h)

    in_order_decided : slot_in_order (decided_by r b) ≡ true
    unfolding slot_in_order state_in_order decided_by
    in_order_decided = rw (line.rules, status_not_waiting r b, status_decided r b) isFresh_fresh

    -- the digest of the bytes taken, held against the line's
    compared_afterPiece : length b ≤ r.length → (compare_state (after_piece fresh b) r.digest).same ≡ same (sm3 b) r.digest
    unfolding compare_state
    compared_afterPiece h =
        let ends = finish_fresh b (omega (arith, line_range.2)) in
        rw (ends, compared_same (record { number = accepted; bytes = sm3 b }) r.digest refl line.digest)

  -- what the slot that was reached is
  reached_waits : (b : List ℕ) → length b < r.length → reached r b ≡ waits_with r b
  unfolding reached
  reached_waits b h = rw (lt-ltb (length b) r.length h)

  reached_decided : (b : List ℕ) → r.length ≤ length b → reached r b ≡ decided_by r b
  unfolding reached
  reached_decided b h = rw (le-ltb (length b) r.length h)

  -- a waiting note's slot after one more piece
  module _ (b p : List ℕ) (h : length b < r.length) (l : length b + length p ≤ r.length) where
    joined : length (b ++ p) ≤ r.length
    joined = simp length-append (omega arith)

    updated : record { number = accepted; state = after_piece fresh (b ++ p) } ≡ update (waits_with r b).state p
    unfolding waits_with
    updated =
        sym
        (update_takes (after_piece fresh b) p (in_order_afterPiece b (omega arith)) (omega (arith, total_afterPiece b, line_range.2))
        ∙ rw (afterPiece_join fresh inOrder_fresh b p))

    decided_by_lem : decided_slot (waits_with r b) (after_piece fresh (b ++ p)) ≡ decided_by r (b ++ p)
    unfolding decided_slot waits_with decided_by decided_status
    decided_by_lem = rw (compared_afterPiece (b ++ p) joined)

    with_piece_lem : with_piece (waits_with r b) p ≡ reached r (b ++ p)
    unfolding waits_with
    with_piece_lem = go (ltb (length (b ++ p)) r.length) refl
      where
        go : (t : Bool) → ltb (length (b ++ p)) r.length ≡ t → with_piece (waits_with r b) p ≡ reached r (b ++ p)
        go true w =
            let less = ltb-true _ _ w in
            waits_on (waits_with r b) p _ updated (rw (total_afterPiece (b ++ p)) less) ∙ sym (reached_waits (b ++ p) less)
        go false w =
            let full = ltb-false _ _ w in
            decides (waits_with r b) p _ updated (rw (total_afterPiece (b ++ p)) full) ∙ decided_by_lem ∙ sym (reached_decided (b ++ p) full)

  -- "each waiting, with its own line's record and a fresh state": nothing was accepted yet
  pub reached_nothing : reached r [] ≡ waiting_slot r
  unfolding waits_with waiting_slot
  reached_nothing = reached_waits [] (omega (arith, line_range.1)) ∙ rw (afterPiece_nil fresh inOrder_fresh)

  module _ (b p : List ℕ) where
    -- a piece that does not run past, one that does, and one to a decided note
    pub takes : length b < r.length → length b + length p ≤ r.length
        → deliver_to (reached r b) p ≡ record { answer = as_it_stands accepted (reached r (b ++ p)); slot = reached r (b ++ p) }
    unfolding waits_with
    takes h l = rw (reached_waits b h, is_taken (waits_with r b) p (in_order_waits b h) refl (omega (arith, total_afterPiece b)), with_piece_lem b p h l)

    pub runs_past : length b < r.length → r.length < length b + length p
        → deliver_to (reached r b) p ≡ record { answer = as_it_stands past_length (reached r b); slot = reached r b }
    unfolding waits_with
    runs_past h l = rw (reached_waits b h) (slot_runs_past (waits_with r b) p (in_order_waits b h) refl (omega (arith, total_afterPiece b)))

    pub after_decided : r.length ≤ length b → deliver_to (reached r b) p ≡ record { answer = as_it_stands decided (reached r b); slot = reached r b }
    unfolding decided_by
    after_decided h = rw (reached_decided b h) (is_decided_lem (decided_by r b) p (in_order_decided b) (eqb-false _ _ (status_not_waiting r b)))

  -- status and taken as they stand, and asking, which gives the same
  module _ (b : List ℕ) (number : ℕ) where
    pub stands_waiting : length b < r.length → as_it_stands number (reached r b) ≡ record { number = number; status = waiting; taken = length b }
    unfolding as_it_stands bytes_taken waits_with
    stands_waiting h = rw (reached_waits b h, total_afterPiece b)

    pub stands_decided : r.length ≤ length b → as_it_stands number (reached r b) ≡ record { number = number; status = decided_status r b; taken = r.length }
    unfolding as_it_stands bytes_taken decided_by
    stands_decided h = rw (reached_decided b h, status_not_waiting r b)

  in_order_reached : (b : List ℕ) (t : Bool) → ltb (length b) r.length ≡ t → slot_in_order (reached r b) ≡ true
  in_order_reached b true h = let l = ltb-true _ _ h in rw (reached_waits b l) (in_order_waits b l)
  in_order_reached b false h = rw (reached_decided b (ltb-false _ _ h)) (in_order_decided b)

  pub asked : (b : List ℕ) → ask_of (reached r b) ≡ as_it_stands accepted (reached r b)
  asked b = slot_asked (reached r b) (in_order_reached b _ refl)

  -- a note whose slot it is, is listed
  pub not_none : (b : List ℕ) → eqb (reached r b).status none ≡ false
  unfolding reached waits_with decided_by
  not_none b = go (ltb (length b) r.length)
    where
      go : (t : Bool) → eqb (cond {A = Slot} t (waits_with r b) (decided_by r b)).status none ≡ false
      go true = refl
      go false = status_not_none r b
