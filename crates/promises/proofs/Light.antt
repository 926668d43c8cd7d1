-- The rank-ready light, from an accepted sheet. Assumes nothing.
use Prim.Native.Nat.{ℕ, ◌+◌, ◌≤◌, ◌<◌}
use mathlib.Core.Path.{◌≡◌, refl, sym, ap, ◌∙◌}
use mathlib.Core.Logic.{◌↔◌, ⊎_elim}
use mathlib.Core.List.{List, [], ◌∷◌}
use mathlib.Core.Bool.{Bool, true, false}
use native.Mathlib.Omega.{arith}
use lib.ListN.{length, length-set}
use Rattle.truth.proofs.Tests.{below_or_not}
use Rattle.refusal.specs.Table.{accepted, unlisted}
use Rattle.rules.proofs.Rules.{is_note_is, note_rule_is}
use Rattle.rules.proofs.Proved.{proved as rules}
use Rattle.lines.specs.declared.Entry.{Entry}
use Rattle.slots.specs.Slots.{empty_slot, waiting_slot}
use Rattle.slots.specs.declared.Slot.{Slot}
use Rattle.slots.specs.declared.Answer.{Answer}
use Rattle.slots.proofs.Proved.{proved as slots}
use Rattle.session.specs.Sessions.{empty_session, slot_index, slot_of, put_slot}
use Rattle.session.specs.Light.{ready}
use Rattle.session.specs.Operations.{Operation, ask}
use Rattle.session.specs.Promises.{Listed, AskRow, ask5, ask6, ask_waiting, ask_decided}
use Rattle.session.specs.declared.Session.{Session}
use Rattle.session.proofs.Proved.{proved as session}
use Rattle.session.proofs.Listed.{never_both}
use Rattle.session.proofs.Putting.{index_lt, indices_differ}
use Rattle.sheet.specs.Judging.{with_notes, sheet_of}
use Rattle.sheet_promises.specs.Grammar.{AllObey, no_entry_lem, entry, IsSheet}
use Rattle.sheet_promises.specs.Promises.{Among}
use Rattle.sheet_promises.proofs.Listing.{one_of, found}
use Rattle.sheet_promises.proofs.Proved.{proved as sheets, sheet_session}
use Rattle.promises.specs.Sequences.{after, accepted_bytes}
use Rattle.promises.specs.Light.{slot_listed, slot_open, RankReady, how_many, CountsFit, Light}
use Rattle.promises.proofs.Counting.{listed_is, unlisted_is, shut_is, one, counts_set, counting_is, same_many}
use Rattle.promises.proofs.Demand3.{demand3}
use Rattle.promises.proofs.Walk.{walk_is, light_is_walk, dark}
use Rattle.promises.proofs.Keeping.{all_refused, kept_all, stays_lit, listed_after}

-- the slots of a sheet's session, counted: each entry lists one note more, and opens none
module _ (s : Session) (e : Entry) (all : length s.slots ≡ 32) (none : (slot_of s e.note).status ≡ 0) where
  one_listed : how_many slot_listed (put_slot s e.note (waiting_slot e.sample)).slots ≡ how_many slot_listed s.slots + 1
  unfolding slot_of put_slot waiting_slot one
  one_listed =
      let more = counts_set slot_listed s.slots (slot_index e.note) (waiting_slot e.sample) empty_slot (rw all (index_lt e.note)) in
      let before : one (slot_listed (slot_of s e.note)) ≡ 0 = ap one (unlisted_is _ none) in
      let now : one (slot_listed (waiting_slot e.sample)) ≡ 1 = ap one ((listed_is (waiting_slot e.sample)).1 (λ h. absurd (omega arith))) in
      omega arith

  still_32 : length (put_slot s e.note (waiting_slot e.sample)).slots ≡ 32
  unfolding put_slot
  still_32 = length-set s.slots (slot_index e.note) (waiting_slot e.sample) ∙ all

  none_opened : how_many slot_open (put_slot s e.note (waiting_slot e.sample)).slots ≡ how_many slot_open s.slots
  unfolding slot_of put_slot waiting_slot one
  none_opened =
      let same = counts_set slot_open s.slots (slot_index e.note) (waiting_slot e.sample) empty_slot (rw all (index_lt e.note)) in
      let before : one (slot_open (slot_of s e.note)) ≡ 0 = ap one (shut_is _ (λ h. absurd (omega arith))) in
      let now : one (slot_open (waiting_slot e.sample)) ≡ 0 = ap one (shut_is (waiting_slot e.sample) (λ h. absurd (omega arith))) in
      omega arith

notes_counted : (s : Session) (last : ℕ) (es : List Entry) → AllObey last es → length s.slots ≡ 32
    → ((note : ℕ) → last < note → note ≤ 32 → (slot_of s note).status ≡ 0)
    → (how_many slot_listed (with_notes s es).slots ≡ how_many slot_listed s.slots + length es) × (how_many slot_open (with_notes s es).slots ≡ how_many slot_open s.slots)
unfolding with_notes
notes_counted s last [] no_entry_lem all free = (omega arith, refl)
notes_counted s last (e ∷ es) (entry o os) all free =
    let (low, high, rises) = (note_rule_is last e.note).0 o.note_rule_lem in
    let none = free e.note rises high in
    let (listed, opened) = notes_counted (put_slot s e.note (waiting_slot e.sample)) e.note es os (still_32 s e all none)
    (λ note above high'.
    let differ = indices_differ note e.note (λ same. absurd (omega arith)) ((is_note_is note).1 (omega arith, high')) ((is_note_is e.note).1 (low, high)) in
    rw (session.put_other s e.note note (waiting_slot e.sample) differ) (free note (omega arith) high')) in
    (listed ∙ omega (arith, one_listed s e all none), opened ∙ none_opened s e all none)

-- of none to begin with
at_first : (test : Slot → Bool) → test empty_slot ≡ false → how_many test empty_session.slots ≡ 0
unfolding empty_session
at_first test e = same_many test empty_slot 32 false e

sheet_fits : (text : List ℕ) (es : List Entry) → IsSheet text es → CountsFit (sheet_of text).session
sheet_fits text es sheet =
    let lists = sheets.lists text es sheet in
    let (listed, opened) = notes_counted empty_session 0 es sheet.obeyed session.empty_slots (λ note low high. ap (λ (x : Slot). x.status) (session.empty_lists note ∙ slots.empty)) in
    let slots_are : (sheet_of text).session.slots ≡ (with_notes empty_session es).slots = ap (λ (s : Session). s.slots) (sheet_session text es sheet) in
    let unlisted = ap (λ (x : Slot). x.status) slots.empty in
    let none_listed_lem = at_first slot_listed (unlisted_is empty_slot unlisted) in
    let none_open = at_first slot_open (shut_is empty_slot (λ is_open. absurd (omega arith))) in
    record {
      slots = lists.slots;
      listed = rw slots_are (omega (arith, lists.notes, listed, none_listed_lem));
      opened = rw slots_are (omega (arith, lists.none_open, opened, none_open));
    }

-- a note of the sheet is answered as its slot stands
told_by : (s : Session) (note : ℕ) {a : Answer} → AskRow s note a → a.number ≡ accepted → Listed s note × (a.status ≡ (slot_of s note).status)
told_by s note (ask5 u) n = absurd (omega arith)
told_by s note (ask6 l x) n = absurd (omega arith)
told_by s note (ask_waiting w) n = (w.listed, sym w.waiting)
told_by s note (ask_decided d) n = (d.listed, refl)

-- and another one is not listed
untold_by : (s : Session) (note : ℕ) {a : Answer} → AskRow s note a → a.number ≡ unlisted → Listed s note → ⊥
untold_by s note (ask5 u) n l = never_both s note l u
untold_by s note (ask6 l x) n _ = absurd (omega arith)
untold_by s note (ask_waiting w) n l = absurd (omega arith)
untold_by s note (ask_decided d) n l = absurd (omega arith)

module _ (text : List ℕ) (es : List Entry) (sheet : IsSheet text es) (os : List Operation) where
  abbrev s : Session
  s = after (sheet_of text).session os

  fit : CountsFit s
  fit = kept_all (sheet_of text).session os (sheet_fits text es sheet)

  row : (note : ℕ) → AskRow s note (ask s note)
  row note = (session.ask_table s note (ask s note)).0 refl

  module _ (e : Entry) (among : Among e es) where
    answered : (ask s e.note).number ≡ accepted
    answered =
        let p = demand3.listed text es sheet e among os in
        ⊎_elim
        (λ fewer. ap (λ (a : Answer). a.number) (p.waits fewer))
        (λ most. let within = p.within in ap (λ (a : Answer). a.number) (p.decides (omega arith)))
        (below_or_not (length (accepted_bytes e.note (sheet_of text).session os)) e.sample.length)

    told : Listed s e.note × ((ask s e.note).status ≡ (slot_of s e.note).status)
    told = told_by s e.note (row e.note) answered

  from_every : ((e : Entry) → Among e es → (ask s e.note).status ≡ 2) → RankReady s
  from_every all =
      let (e, among) = one_of es ((rules.counts (length es)).0 sheet.count_rule_lem).0 in
      record {
        some = (e.note, (told e among).0);
        every = λ note listed.
            ⊎_elim
            (λ (d, at, is). rw (← is) (sym (told d at).1 ∙ all d at))
            (λ nowhere. absurd (untold_by s note (row note) (ap (λ (a : Answer). a.number) (demand3.others text es sheet note nowhere os).asked) listed))
            (found note es);
      }

  lit_is : (ready s ≡ true) ↔ ((e : Entry) → Among e es → (ask s e.note).status ≡ 2)
  lit_is = (
    λ lit e among. let t = told e among in t.1 ∙ ((walk_is s fit.slots).0 (sym (light_is_walk s fit) ∙ lit)).every e.note t.0,
    λ all. light_is_walk s fit ∙ (walk_is s fit.slots).1 (from_every all),
  )

pub light : Light
light =
    record {
      walks = walk_is;
      counting = counting_is;
      counts = fit;
      lines = λ text es sheet os. listed_after (sheet_of text).session os ∙ (sheets.lists text es sheet).notes;
      same = λ text es sheet os. light_is_walk _ (fit text es sheet os);
      every_note = lit_is;
      stays = λ text es sheet os later lit. rw (stays_lit (after (sheet_of text).session os) later (fit text es sheet os) lit) lit;
      kept = kept_all;
      fits_walk = light_is_walk;
      fits_stays = λ s os fits lit. rw (stays_lit s os fits lit) lit;
      refused = λ s note piece fits. all_refused s fits note piece;
      refused_sheet = λ text bad. let none = sheets.refused text bad in (none.notes, none.none_open, dark _ none.none_open);
    }
