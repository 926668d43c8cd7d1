-- A delivery, and asking, by the rows of the table. Assumes nothing.
use Prim.Native.Nat.{ℕ, ◌+◌, ◌-◌, ◌≤◌, ◌<◌}
use mathlib.Core.Path.{◌≡◌, refl, sym, ap, ◌∙◌, subst}
use mathlib.Core.Logic.Iff
use mathlib.Core.Logic.{◌↔◌, inr}
use mathlib.Core.List.{List, []}
use mathlib.Core.Bool.{Bool, true, false}
use native.Mathlib.Omega.{arith}
use native.Mathlib.Nat.{not-le_of_lt, lt_of_not-le, add-zero}
use borrow.Author.Tests.{eqb-true, eqb-false, leb-true, leb-false}
use lib.Dec.{eqb, leb}
use lib.ListN.{length, get_or-replicate}
use Rattle.refusal.specs.Table.{accepted, unlisted, slot_not_in_order, decided, past_length}
use Rattle.slots.specs.Slots.{waiting, slot_in_order, empty_slot}
use Rattle.slots.specs.Delivery.{bare_refusal, as_it_stands, with_piece, deliver_to, is_listed}
use Rattle.session.specs.Sessions.{empty_session, slot_index, slot_of, put_slot}
use Rattle.session.specs.Light.{open_after, put_counted}
use Rattle.session.specs.Operations.{deliver, ask}
use Rattle.session.specs.Promises.{Row, row5, row6, row7, row8, row0, AskRow, ask5, ask6, ask_waiting, ask_decided, Listed, Waits, IsDecided}
use Rattle.slots.specs.declared.Slot.{Slot}
use Rattle.session.specs.declared.Session.{Session}
use Rattle.slots.specs.declared.Answer.{Answer}
use Rattle.session.specs.declared.Delivered.{Delivered}
use Rattle.slots.proofs.Slots.{not_waiting, has_room, else_decided, taken_waiting, taken_decided}
use Rattle.slots.proofs.Deliver.{not_in_order, is_decided_lem, runs_past, is_taken, asked, asked_not_in_order}
use Rattle.slots.proofs.Pieces.{counted, empty_piece}
use Rattle.slots.proofs.Listed.{ask_at_listed, ask_at_unlisted}
use Rattle.session.proofs.Putting.{index_lt, put_unchanged, on_listed, on_unlisted}
use Rattle.session.proofs.Listed.{listed_is, unlisted_is}

-- where two bounds hold together, they are passed together
past_room : {a b c d : ℕ} → (a ≤ b) ↔ (c ≤ d) → b < a → d < c
past_room {a} {b} {c} {d} e h = lt_of_not-le (λ k. not-le_of_lt h (e.1 k))

module _ (s : Session) (note : ℕ) where
  abbrev slot : Slot
  slot = slot_of s note

  waits_by : is_listed slot note ≡ true → slot_in_order slot ≡ true → eqb slot.status waiting ≡ true → Waits s note
  waits_by l o w = record { listed = (listed_is s note).0 l; in_order = o; waiting = eqb-true _ _ w }

  decided_by_lem : is_listed slot note ≡ true → slot_in_order slot ≡ true → eqb slot.status waiting ≡ false → IsDecided s note
  decided_by_lem l o w = record { listed = (listed_is s note).0 l; in_order = o; decided = else_decided slot o (eqb-false _ _ w) }

  -- an answer as a waiting slot stands, and as a decided one does
  stands_waiting : (number : ℕ) → Waits s note → as_it_stands number slot ≡ record { number = number; status = 1; taken = slot.state.total }
  unfolding as_it_stands
  stands_waiting number w = rw (taken_waiting slot w.waiting, w.waiting)

  stands_decided : (number : ℕ) → IsDecided s note → as_it_stands number slot ≡ record { number = number; status = slot.status; taken = slot.sample.length }
  unfolding as_it_stands
  stands_decided number d = rw (taken_decided slot d.decided)

  bare : (number : ℕ) → bare_refusal number ≡ record { number = number; status = 0; taken = 0 }
  unfolding bare_refusal
  bare number = refl

module _ (s : Session) (note : ℕ) (piece : List ℕ) where
  refusal : Listed s note → {a b : Answer} → deliver_to (slot s note) piece ≡ record { answer = a; slot = slot s note } → a ≡ b
      → record { answer = b; session = s } ≡ deliver s note piece
  unfolding deliver
  refusal l e f = sym (on_listed s note _ ((listed_is s note).1 l) ∙ rw (e, put_unchanged s note, f))

  -- "taken + piece exceeds length", and the room that the piece is held against
  room_is : Waits s note
      → ((slot s note).state.total + length piece ≤ (slot s note).sample.length) ↔ (length piece ≤ (slot s note).sample.length - (slot s note).state.total)
  room_is w = let r = has_room (slot s note) w.in_order w.waiting in (λ h. omega arith, λ h. omega arith)

  -- the answer once the piece is taken
  taken_then : Waits s note → (slot s note).state.total + length piece ≤ (slot s note).sample.length
      → as_it_stands accepted (with_piece (slot s note) piece)
      ≡ record { number = accepted; status = (with_piece (slot s note) piece).status; taken = (slot s note).state.total + length piece }
  unfolding as_it_stands
  taken_then w e = rw (counted (slot s note) w.in_order w.waiting piece e)

  -- what is left then, of a note that waited
  left_then : Waits s note → (after : Slot)
      → record { slots = (put_slot s note after).slots; listed = s.listed; opened = open_after s.opened 1 after.status } ≡ put_counted s note after
  unfolding put_counted
  left_then w after = rw w.waiting

  -- a row that holds is the answer
  holds : {d : Delivered} → Row s note piece d → d ≡ deliver s note piece
  unfolding deliver
  holds (row5 u) = sym (on_unlisted s note _ ((unlisted_is s note).1 u) ∙ rw (bare s note unlisted))
  holds (row6 l o) = refusal l (not_in_order (slot s note) piece o) (bare s note slot_not_in_order)
  holds (row7 d) = refusal d.listed (is_decided_lem (slot s note) piece d.in_order (not_waiting (slot s note) d.decided)) (stands_decided s note decided d)
  holds (row8 w e) =
      refusal w.listed (runs_past (slot s note) piece w.in_order w.waiting (past_room (room_is w) e)) (stands_waiting s note past_length w)
  holds (row0 w e) =
      sym (on_listed s note _ ((listed_is s note).1 w.listed) ∙ rw (is_taken (slot s note) piece w.in_order w.waiting ((room_is w).0 e), taken_then w e, left_then w (with_piece (slot s note) piece)))

  -- some row holds
  some : (l o w f : Bool) → is_listed (slot s note) note ≡ l → slot_in_order (slot s note) ≡ o → eqb (slot s note).status waiting ≡ w
      → leb (length piece) ((slot s note).sample.length - (slot s note).state.total) ≡ f → (r : Delivered) × Row s note piece r
  some false o w f p q r t = (_, row5 ((unlisted_is s note).0 p))
  some true false w f p q r t = (_, row6 ((listed_is s note).0 p) q)
  some true true false f p q r t = (_, row7 (decided_by_lem s note p q r))
  some true true true false p q r t = let w = waits_by s note p q r in (_, row8 w (past_room (Iff.symm (room_is w)) (leb-false _ _ t)))
  some true true true true p q r t = let w = waits_by s note p q r in (_, row0 w ((room_is w).1 (leb-true _ _ t)))

  -- so a delivery is a row that holds
  row_of : {d : Delivered} → d ≡ deliver s note piece → Row s note piece d
  row_of e = let row = some _ _ _ _ refl refl refl refl in subst (Row s note piece) (holds row.1 ∙ sym e) row.1

  pub by_table : (d : Delivered) → (d ≡ deliver s note piece) ↔ Row s note piece d
  by_table d = (row_of, holds)

  -- a row that refuses leaves the session as it was
  leaves : {d : Delivered} → Row s note piece d → (d.answer.number ≡ accepted → ⊥) → d.session ≡ s
  leaves (row5 u) n = refl
  leaves (row6 l o) n = refl
  leaves (row7 d) n = refl
  leaves (row8 w e) n = refl
  leaves (row0 w e) n = absurd (n refl)

  pub refused_leaves : ((deliver s note piece).answer.number ≡ accepted → ⊥) → (deliver s note piece).session ≡ s
  refused_leaves n = leaves (row_of refl) n

  -- the row that accepts: the note waits, and there is room for the piece
  accepting : {d : Delivered} → Row s note piece d → d.answer.number ≡ accepted
      → Waits s note × ((slot s note).state.total + length piece ≤ (slot s note).sample.length)
  accepting (row5 u) n = absurd (omega arith)
  accepting (row6 l o) n = absurd (omega arith)
  accepting (row7 d) n = absurd (omega arith)
  accepting (row8 w e) n = absurd (omega arith)
  accepting (row0 w e) n = (w, e)

  pub accepted_when : ((deliver s note piece).answer.number ≡ accepted) ↔ (Waits s note × ((slot s note).state.total + length piece ≤ (slot s note).sample.length))
  accepted_when = (accepting (row_of refl), λ h. ap (λ d. d.answer.number) (sym (holds (row0 h.0 h.1))))

  -- a row that accepts counts the piece
  counts : {d : Delivered} → Row s note piece d → d.answer.number ≡ accepted → d.answer.taken ≡ (slot s note).state.total + length piece
  counts (row5 u) n = absurd (omega arith)
  counts (row6 l o) n = absurd (omega arith)
  counts (row7 d) n = absurd (omega arith)
  counts (row8 w e) n = absurd (omega arith)
  counts (row0 w e) n = refl

  pub accepted_counts : (deliver s note piece).answer.number ≡ accepted → (deliver s note piece).answer.taken ≡ (slot s note).state.total + length piece
  accepted_counts n = counts (row_of refl) n

-- an empty piece
pub empty_leaves : (s : Session) (note : ℕ) → Waits s note
    → deliver s note [] ≡ record { answer = record { number = accepted; status = 1; taken = (slot_of s note).state.total }; session = s }
empty_leaves s note w =
    let r = has_room (slot_of s note) w.in_order w.waiting in
    sym (holds s note [] (row0 w (omega arith)))
    ∙ rw (empty_piece (slot_of s note) w.in_order w.waiting, left_then s note [] w (slot_of s note), put_unchanged s note, w.waiting, add-zero (slot_of s note).state.total)

-- the same of asking
module _ (s : Session) (note : ℕ) where
  ask_holds : {a : Answer} → AskRow s note a → a ≡ ask s note
  unfolding ask
  ask_holds (ask5 u) = sym (ask_at_unlisted (slot s note) note ((unlisted_is s note).1 u) ∙ bare s note unlisted)
  ask_holds (ask6 l o) = sym (ask_at_listed (slot s note) note ((listed_is s note).1 l) ∙ asked_not_in_order (slot s note) o ∙ bare s note slot_not_in_order)
  ask_holds (ask_waiting w) =
      sym (ask_at_listed (slot s note) note ((listed_is s note).1 w.listed) ∙ asked (slot s note) w.in_order ∙ stands_waiting s note accepted w)
  ask_holds (ask_decided d) =
      sym (ask_at_listed (slot s note) note ((listed_is s note).1 d.listed) ∙ asked (slot s note) d.in_order ∙ stands_decided s note accepted d)

  ask_some : (l o w : Bool) → is_listed (slot s note) note ≡ l → slot_in_order (slot s note) ≡ o → eqb (slot s note).status waiting ≡ w
      → (a : Answer) × AskRow s note a
  ask_some false o w p q r = (_, ask5 ((unlisted_is s note).0 p))
  ask_some true false w p q r = (_, ask6 ((listed_is s note).0 p) q)
  ask_some true true true p q r = (_, ask_waiting (waits_by s note p q r))
  ask_some true true false p q r = (_, ask_decided (decided_by_lem s note p q r))

  ask_row_of : {a : Answer} → a ≡ ask s note → AskRow s note a
  ask_row_of e = let row = ask_some _ _ _ refl refl refl in subst (AskRow s note) (ask_holds row.1 ∙ sym e) row.1

  pub ask_by_table : (a : Answer) → (a ≡ ask s note) ↔ AskRow s note a
  ask_by_table a = (ask_row_of, ask_holds)

-- a session with no note listed
pub empty_slot_lem : (note : ℕ) → slot_of empty_session note ≡ empty_slot
unfolding slot_of empty_session
empty_slot_lem note = get_or-replicate 32 (slot_index note) empty_slot empty_slot (index_lt note)

pub empty_asked : (note : ℕ) → ask empty_session note ≡ record { number = unlisted; status = 0; taken = 0 }
unfolding empty_slot
empty_asked note = sym (ask_holds empty_session note (ask5 (inr (inr (ap (λ (x : Slot). x.status) (empty_slot_lem note))))))
