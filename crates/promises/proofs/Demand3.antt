-- Demand 3, from the slot that a note's accepted bytes reach.
use mathlib.Core.Path.{◌≡◌, refl, sym, ap, ◌∙◌}
use mathlib.Core.Logic.{◌↔◌}
use mathlib.Core.List.{List, [], ◌∷◌, ◌++◌, append-nil}
use mathlib.Core.Bool.{Bool, true, false, cond}
use Prim.Native.Nat.{ℕ, ◌+◌, ◌≤◌, ◌<◌}
use native.Mathlib.Omega.{arith}
use lib.Dec.{leb}
use lib.ListN.{length, length-append}
use borrow.Author.Tests.{leb-true, leb-false}
use Rattle.refusal.specs.Table.{accepted, decided, past_length}
use Rattle.buffers.specs.Same.{same}
use Rattle.buffers.proofs.Comparing.{same_equal, equal_same, differ_same, same_differ}
use Rattle.hash.specs.Sm3.{sm3}
use Rattle.slots.specs.Slots.{opened, shut}
use Rattle.rules.proofs.Rules.{is_note_is}
use Rattle.slots.specs.Delivery.{as_it_stands, deliver_to, on_slot}
use Rattle.session.specs.Sessions.{slot_of}
use Rattle.session.specs.Operations.{Operation, deliver, ask}
use Rattle.slots.proofs.Listed.{at_listed, ask_at_listed}
use Rattle.rules.specs.declared.Record.{Record}
use Rattle.slots.specs.declared.Slot.{Slot}
use Rattle.slots.specs.declared.Answer.{Answer}
use Rattle.session.specs.declared.Session.{Session}
use Rattle.sheet.specs.Judging.{sheet_of}
use Rattle.promises.specs.Sequences.{after, accepted_bytes}
use Rattle.promises.specs.Demand3.{decided_status, Promised, Demand3}
use Rattle.promises.proofs.LineRecord.{LineRecord, Lists, line_record, listed_there, not_there}
use Rattle.promises.proofs.OneNote.{view, slotOf_view, asks, own, unchanged, parts}
use Rattle.promises.proofs.Reached.{reached, reached_line, reached_fresh, reached_nothing, takes, runs_past, after_decided, stands_waiting, stands_decided, asked}
use Rattle.promises.proofs.Accepted.{Reaches, is_listed_reached, grows}
use Rattle.promises.proofs.Unlisted.{unlisted_stays}

-- the two sides of a decision
is_opened : (t : Bool) → cond t opened shut ≡ opened → t ≡ true
is_opened true e = refl
is_opened false e = absurd (omega arith)

is_shut : (t : Bool) → cond t opened shut ≡ shut → t ≡ false
is_shut true e = absurd (omega arith)
is_shut false e = refl

module _ (r : Record) (b : List ℕ) where
  opens_by : (decided_status r b ≡ opened) ↔ (sm3 b ≡ r.digest)
  unfolding decided_status
  opens_by = (λ e. same_equal _ _ (is_opened (same (sm3 b) r.digest) e), λ e. rw (equal_same (sm3 b) r.digest e))

  shuts_by : (decided_status r b ≡ shut) ↔ (sm3 b ≡ r.digest → ⊥)
  unfolding decided_status
  shuts_by = (λ e. same_differ _ _ (is_shut (same (sm3 b) r.digest) e), λ f. rw (differ_same (sm3 b) r.digest f))

module _ (r : Record) (line : LineRecord r) (note : ℕ) (low : 1 ≤ note) (high : note ≤ 32) where
  module _ (s : Session) (b : List ℕ) (h : Reaches r b (view s note)) where
    asked_is : ask s note ≡ as_it_stands accepted (reached r b)
    asked_is = asks s note ∙ rw h.0 (ask_at_listed (reached r b) note (is_listed_reached r line note low high b) ∙ asked r line b)

    module _ (p : List ℕ) where
      here : on_slot (view s note) note (λ slot. deliver_to slot p) ≡ deliver_to (reached r b) p
      here = rw h.0 (at_listed (reached r b) note (λ slot. deliver_to slot p) (is_listed_reached r line note low high b))

      answered : (deliver s note p).answer ≡ (deliver_to (reached r b) p).answer
      unfolding deliver
      answered = (own s note (λ slot. deliver_to slot p)).0 ∙ rw here

      moved : view (deliver s note p).session note ≡ (deliver_to (reached r b) p).slot
      unfolding deliver
      moved = (own s note (λ slot. deliver_to slot p)).1 ∙ rw here

      -- a slot that stays leaves the session the same
      refused : (number : ℕ) → deliver_to (reached r b) p ≡ record { answer = as_it_stands number (reached r b); slot = reached r b }
          → deliver s note p ≡ record { answer = as_it_stands number (reached r b); session = s }
      unfolding deliver
      refused number e = parts (answered ∙ rw e) (unchanged s note (λ slot. deliver_to slot p) (rw (here, e) (sym h.0)))

    -- nothing more is accepted for a decided note
    still : length b ≡ r.length → (later : List Operation) → Reaches r b (view (after s later) note)
    still e later = go (accepted_bytes note s later) (grows r line note low high s b later h)
      where
        go : (c : List ℕ) → Reaches r (b ++ c) (view (after s later) note) → Reaches r b (view (after s later) note)
        go [] g = rw append-nil at g
        go (x ∷ c) g = absurd (omega (arith, g.1, length-append b (x ∷ c)))

  module _ (s : Session) (b : List ℕ) (h : Reaches r b (view s note)) where
    asks_decided : length b ≡ r.length → ask s note ≡ record { number = accepted; status = decided_status r b; taken = length b }
    asks_decided e = asked_is s b h ∙ stands_decided r line b accepted (omega arith) ∙ rw e

    fits_in : length b < r.length → (p : List ℕ) → (deliver s note p).answer.number ≡ accepted → length b + length p ≤ r.length
    unfolding as_it_stands
    fits_in w p a = go (leb (length b + length p) r.length) refl
      where
        go : (t : Bool) → leb (length b + length p) r.length ≡ t → length b + length p ≤ r.length
        go true f = leb-true _ _ f
        go false f =
            let refused_8 : (deliver s note p).answer.number ≡ past_length = rw (answered s b h p, runs_past r line b p w (leb-false _ _ f)) in
            absurd (omega arith)

    accepted_answer : length b < r.length → (p : List ℕ) → length b + length p ≤ r.length → (deliver s note p).answer ≡ as_it_stands accepted (reached r (b ++ p))
    accepted_answer w p l = answered s b h p ∙ rw (takes r line b p w l)

    accepted_slot : length b < r.length → (p : List ℕ) → length b + length p ≤ r.length → Reaches r (b ++ p) (view (deliver s note p).session note)
    accepted_slot w p l = (moved s b h p ∙ rw (takes r line b p w l), rw (length-append b p) l)

    stands_there : slot_of s note ≡ reached r b
    stands_there = slotOf_view s note ((is_note_is note).1 (low, high)) ∙ h.0

    promised : Promised s note r b
    unfolding as_it_stands
    promised =
        record {
          within = h.1;
          waits = λ w. asked_is s b h ∙ stands_waiting r line b accepted w;
          accepts = λ w p. (fits_in w p, λ l. ap (λ (x : Answer). x.number) (accepted_answer w p l));
          answers = λ w p l. accepted_answer w p l ∙ sym (asked_is (deliver s note p).session (b ++ p) (accepted_slot w p l));
          refuses = λ w p l. refused s b h p past_length (runs_past r line b p w l) ∙ rw (stands_waiting r line b past_length w);
          decides = asks_decided;
          keeps = ap (λ (x : Slot). x.sample) stands_there ∙ reached_line r b;
          leaves = λ e. ap (λ (x : Slot). x.state) stands_there ∙ reached_fresh r b (omega arith);
          opens = λ e. rw (asks_decided e) (opens_by r b);
          shuts = λ e. rw (asks_decided e) (shuts_by r b);
          stays = λ e later. asked_is (after s later) b (still s b h e later) ∙ sym (asked_is s b h);
          closed =
              λ e later p.
              refused (after s later) b (still s b h e later) p decided (after_decided r line b p (omega arith))
              ∙ rw (stands_decided r line b decided (omega arith), e);
        }

-- a listed note for which nothing was accepted yet, and then any deliveries
module _ (s : Session) (note : ℕ) (r : Record) (line : LineRecord r) (lists : Lists s note r) where
  at_start : Reaches r [] (view s note)
  at_start = (sym (slotOf_view s note ((is_note_is note).1 (lists.first, lists.last))) ∙ lists.slot ∙ sym (reached_nothing r line), omega arith)

  from_start : (os : List Operation) → Promised (after s os) note r (accepted_bytes note s os)
  from_start os =
      promised r line note lists.first lists.last (after s os) (accepted_bytes note s os)
      (grows r line note lists.first lists.last s [] os at_start)

pub demand3 : Demand3
demand3 =
    record {
      listed =
          λ text es sheet e among.
          from_start (sheet_of text).session e.note e.sample (line_record text es sheet e among) (listed_there text es sheet e among);
      others = λ text es sheet note none. unlisted_stays (sheet_of text).session note (not_there text es sheet note none);
      never_listed = unlisted_stays;
    }
