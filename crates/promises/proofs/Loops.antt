-- No loop leaves its sample. Assumes nothing.
use Prim.Native.Nat.{ℕ, zero, suc, ◌+◌, ◌/◌, ◌≤◌, ◌<◌}
use mathlib.Core.Path.{◌≡◌, refl, ◌∙◌}
use mathlib.Core.Logic.{◌↔◌}
use mathlib.Core.List.{List, [], ◌∷◌, ◌++◌, append_assoc}
use mathlib.Core.Bool.{true, false}
use native.Mathlib.Nat.{add-zero}
use native.Mathlib.Omega.{arith}
use lib.ListN.{length, get_or, set}
use Rattle.truth.proofs.Tests.{never}
use Rattle.rules.specs.Rules.{count_rule, note_rule, good_length, good_loop}
use Rattle.rules.specs.Promises.{Obeyed}
use Rattle.rules.specs.declared.Record.{Record}
use Rattle.rules.proofs.Proved.{proved as rules}
use Rattle.lines.specs.declared.Entry.{Entry}
use Rattle.slots.specs.Slots.{none, slot_in_order, empty_slot}
use Rattle.slots.specs.Delivery.{with_piece}
use Rattle.slots.specs.declared.Slot.{Slot}
use Rattle.slots.specs.declared.Answer.{Answer}
use Rattle.slots.proofs.Proved.{proved as slots}
use Rattle.session.specs.Sessions.{slot_index, slot_of, put_slot}
use Rattle.session.specs.Operations.{Operation, delivery, deliver, ask, perform}
use Rattle.session.specs.Promises.{Row, row5, row6, row7, row8, row0, AskRow, ask5, ask6, ask_waiting, ask_decided}
use Rattle.session.specs.declared.Session.{Session}
use Rattle.session.specs.declared.Delivered.{Delivered}
use Rattle.session.proofs.Proved.{proved as session}
use Rattle.sheet.specs.Judging.{sheet_of}
use Rattle.sheet_promises.specs.Grammar.{IsHeader, IsLine, Lines, no_line, line, ObeysRules, AllObey, no_entry_lem, entry}
use Rattle.sheet_promises.specs.Faults.{loop, breaks, FirstBad, here, later, notes}
use Rattle.sheet_promises.proofs.Proved.{proved as sheets}
use Rattle.promises.specs.Sequences.{after}
use Rattle.promises.specs.Loops.{LoopInside, last_note, Loops}
use Rattle.promises.proofs.LineRecord.{line_record}
use Rattle.promises.proofs.Demand3.{demand3}

one_rule : (last : ℕ) (e : Entry) → ObeysRules last e ↔ ((note_rule last e.note ≡ true) × Obeyed e.sample)
one_rule last e =
    let lengths = rules.lengths e.sample.length in
    let loops = rules.loops e.sample.length e.sample.loop_start e.sample.loop_end in (
      λ o.
          let (even, low, high) = lengths.0 o.length_rule_lem in
          let (forward, within) = loops.0 o.loop_rule_lem in
          (o.note_rule_lem, record { even = even; at_least = low; at_most = high; forward = forward; within = within }),
      λ h.
          let o = h.1 in
          record { note_rule_lem = h.0; length_rule_lem = lengths.1 (o.even, o.at_least, o.at_most); loop_rule_lem = loops.1 (o.forward, o.within) },
    )

obeyed_inside : (r : Record) → Obeyed r → LoopInside r
obeyed_inside r o = (rules.plays _ _ _).0 ((rules.loops _ _ _).1 (o.forward, o.within))

ordered_inside : (slot : Slot) → slot_in_order slot ≡ true → LoopInside slot.sample
ordered_inside slot ordered = obeyed_inside slot.sample ((slots.slots_in_order slot).0 ordered).0

-- a well-formed line whose loop is any other, where note and length are good
module _ (piece rest : List ℕ) (e : Entry) (l : IsLine piece e) (long : good_length e.sample ≡ true)
    (out : e.sample.loop_start ≤ e.sample.loop_end → e.sample.loop_end < e.sample.length / 2 → ⊥) where
  bad_loop_lem : good_loop e.sample ≡ false
  bad_loop_lem = never _ (λ g. let r = (rules.loops _ _ _).0 g in out r.0 r.1)

  first_bad : (now count last : ℕ) (text : List ℕ) (es : List Entry) → Lines text es → AllObey last es → length es < count
      → note_rule (last_note last es) e.note ≡ true
      → FirstBad now count last (text ++ (piece ++ rest)) 4 (now + length es)
  unfolding last_note
  first_bad now zero last text es ls os fits n = absurd (omega arith)
  first_bad now (suc count) last text es no_line no_entry_lem fits n = rw (add-zero now) (here (breaks piece rest e l refl (loop n long bad_loop_lem)))
  first_bad now (suc count) last text es (line {text = front} {rest = behind} {e = d} {es = more} i ls) (entry o os) fits n =
      let place : now + 1 + length more ≡ now + length (d ∷ more) = omega arith in
      later i (append_assoc front behind (piece ++ rest)) o (rw place at (first_bad (now + 1) count d.note behind more ls os (omega arith) n))

  refused_loop : (header front : List ℕ) (count : ℕ) (es : List Entry) → IsHeader header count → count_rule count ≡ true
      → Lines front es → AllObey 0 es → length es < count → note_rule (last_note 0 es) e.note ≡ true
      → (sheet_of (header ++ (front ++ (piece ++ rest)))).verdict ≡ record { number = 4; line = length es + 2 }
  refused_loop header front count es h c ls os fits n =
      let place : 2 + length es ≡ length es + 2 = omega arith in
      ((sheets.refuses _ 4 (length es + 2)).1
      (notes header (front ++ (piece ++ rest)) count h refl c (rw place at (first_bad 2 count 0 front es ls os fits n)))).0

-- a slot that is put with the record that stood there leaves every record, also where there is no such slot
set_keeps : (l : List Slot) (i j : ℕ) (slot none : Slot) → slot.sample ≡ (get_or l i none).sample → (get_or (set l i slot) j none).sample ≡ (get_or l j none).sample
set_keeps [] i j slot none e = refl
set_keeps (x ∷ l) zero zero slot none e = e
set_keeps (x ∷ l) zero (suc j) slot none e = refl
set_keeps (x ∷ l) (suc i) zero slot none e = refl
set_keeps (x ∷ l) (suc i) (suc j) slot none e = set_keeps l i j slot none e

put_keeps : (s : Session) (m n listed opened : ℕ) (slot : Slot) → slot.sample ≡ (slot_of s m).sample
    → (slot_of (record { slots = (put_slot s m slot).slots; listed = listed; opened = opened }) n).sample ≡ (slot_of s n).sample
unfolding slot_of put_slot
put_keeps s m n listed opened slot e = set_keeps s.slots (slot_index m) (slot_index n) slot empty_slot e

module _ (s : Session) (note : ℕ) where
  asked_ordered : (a : Answer) → AskRow s note a → (a.status ≡ none → ⊥) → slot_in_order (slot_of s note) ≡ true
  asked_ordered a (ask5 u) some = absurd (some refl)
  asked_ordered a (ask6 l spoilt) some = absurd (some refl)
  asked_ordered a (ask_waiting w) some = w.in_order
  asked_ordered a (ask_decided d) some = d.in_order

  module _ (piece : List ℕ) where
    delivered_ordered : (d : Delivered) → Row s note piece d → (d.answer.status ≡ none → ⊥) → slot_in_order (slot_of s note) ≡ true
    delivered_ordered d (row5 u) some = absurd (some refl)
    delivered_ordered d (row6 l spoilt) some = absurd (some refl)
    delivered_ordered d (row7 w) some = w.in_order
    delivered_ordered d (row8 w past) some = w.in_order
    delivered_ordered d (row0 w fits) some = w.in_order

    delivered_keeps : (d : Delivered) (n : ℕ) → Row s note piece d → (slot_of d.session n).sample ≡ (slot_of s n).sample
    delivered_keeps d n (row5 u) = refl
    delivered_keeps d n (row6 l spoilt) = refl
    delivered_keeps d n (row7 w) = refl
    delivered_keeps d n (row8 w past) = refl
    delivered_keeps d n (row0 w fits) =
        put_keeps s note n _ _ (with_piece (slot_of s note) piece) (slots.outcome (slot_of s note) piece w.in_order w.waiting fits).keeps

    row : Row s note piece (deliver s note piece)
    row = (session.table s note piece (deliver s note piece)).0 refl

    keeps : (n : ℕ) → (slot_of (deliver s note piece).session n).sample ≡ (slot_of s n).sample
    keeps n = delivered_keeps (deliver s note piece) n row

all_kept : (s : Session) (os : List Operation) (note : ℕ) → (slot_of (after s os) note).sample ≡ (slot_of s note).sample
unfolding after
all_kept s [] note = refl
all_kept s (delivery m piece ∷ os) note =
    all_kept (perform s (delivery m piece)).session os note ∙ rw (session.delivers s m piece) (keeps s m piece note)

pub no_last : (before : ℕ) → last_note before [] ≡ before
unfolding last_note
no_last before = refl

pub last_of : (before : ℕ) (e : Entry) (es : List Entry) → last_note before (e ∷ es) ≡ last_note e.note es
unfolding last_note
last_of before e es = refl

pub loops : Loops
loops =
    record {
      one_rule = one_rule;
      refused = λ header front piece rest count es e h c ls os fits l n long out. refused_loop piece rest e l long out header front count es h c ls os fits n;
      listed =
          λ text es sheet e among os.
          rw (demand3.listed text es sheet e among os).keeps
          (obeyed_inside e.sample ((rules.obeyed e.sample).0 (line_record text es sheet e among).rules));
      stored = λ s note ordered. ordered_inside (slot_of s note) ordered;
      asked =
          λ s note some. ordered_inside (slot_of s note) (asked_ordered s note (ask s note) ((session.ask_table s note (ask s note)).0 refl) some);
      delivered =
          λ s note piece some.
          rw (keeps s note piece note) (ordered_inside (slot_of s note) (delivered_ordered s note piece (deliver s note piece) (row s note piece) some));
      kept = all_kept;
    }
