-- The session that lists entries: each one's slot, and the other slots. Assumes nothing.
use Prim.Native.Nat.{ℕ, ◌+◌, ◌-◌, ◌<◌, ◌≤◌}
use mathlib.Core.Path.{◌≡◌, refl, sym, ◌∙◌}
use mathlib.Core.List.{List, [], ◌∷◌}
use mathlib.Core.Bool.{true}
use mathlib.Core.Logic.{◌⊎◌, inl, inr, ⊎_elim, ⊎_map}
use borrow.Author.Tests.{eqb-true, eqb-false}
use lib.Dec.{eqb}
use native.Mathlib.Omega.{arith}
use lib.ListN.{length, get_or, length-set}
use lib.Seq.{ext_get_or}
use Rattle.slots.specs.Slots.{empty_slot, waiting_slot}
use Rattle.rules.specs.Rules.{is_note, note_rule}
use Rattle.rules.proofs.Rules.{is_note_is, note_rule_is}
use Rattle.session.specs.Sessions.{empty_session, slot_index, slot_of, put_slot}
use Rattle.session.specs.declared.Session.{Session}
use Rattle.session.proofs.Putting.{index_lt, indices_differ, slot_at, put_own, put_other}
use Rattle.session.proofs.Proved.{proved as empty}
use Rattle.slots.proofs.Proved.{proved as slot}
use Rattle.truth.proofs.Tests.{first as both_first}
use Rattle.sheet.specs.Judging.{with_notes}
use Rattle.lines.specs.declared.Entry.{Entry}
use Rattle.truth.proofs.Tests.{either}
use Rattle.sheet_promises.specs.Grammar.{ObeysRules, AllObey, no_entry_lem, entry}
use Rattle.sheet_promises.specs.Promises.{Among, first, further, Lists}

-- the session with one entry's note listed
abbrev with_entry : Session → Entry → Session
with_entry s e = put_slot s e.note (waiting_slot e.sample)

own : (s : Session) (e : Entry) → length s.slots ≡ 32 → slot_of (with_entry s e) e.note ≡ waiting_slot e.sample
own s e size = put_own s e.note (waiting_slot e.sample) (rw size (index_lt e.note))

other : (s : Session) (e : Entry) (note : ℕ) → is_note e.note ≡ true → is_note note ≡ true → (e.note ≡ note → ⊥) → slot_of (with_entry s e) note ≡ slot_of s note
other s e note is is' differ = put_other s e.note note (waiting_slot e.sample) (indices_differ note e.note (λ same. differ (sym same)) is' is)

as_many : (s : Session) (e : Entry) → length (with_entry s e).slots ≡ length s.slots
unfolding put_slot
as_many s e = length-set s.slots (slot_index e.note) (waiting_slot e.sample)

-- what rule 2 tells of an entry
module _ (last : ℕ) (e : Entry) (o : ObeysRules last e) where
  rises : last < e.note
  rises = ((note_rule_is last e.note).0 o.note_rule_lem).2

  is_a_note : is_note e.note ≡ true
  unfolding note_rule
  is_a_note = both_first (is_note e.note) _ o.note_rule_lem

-- entries that obey the rules are above the note before them
pub above : (last : ℕ) (es : List Entry) → AllObey last es → (e : Entry) → Among e es → last < e.note
above _ _ (no_entry_lem {last = last}) e among = elim among [ ]
above last es (entry o os) e first = rises last e o
above last es (entry {e = d} {es = more} o os) e (further a) = let up : d.note < e.note = above d.note more os e a in let down : last < d.note = rises last d o in omega arith

-- the slots stay as many
pub slots_as_many : (s : Session) (es : List Entry) → length (with_notes s es).slots ≡ length s.slots
unfolding with_notes
slots_as_many s [] = refl
slots_as_many s (e ∷ es) = slots_as_many (with_entry s e) es ∙ as_many s e

-- a note of no entry keeps its slot
pub others_keep : (s : Session) (last : ℕ) (es : List Entry) → AllObey last es → (note : ℕ) → is_note note ≡ true
    → ((e : Entry) → Among e es → e.note ≡ note → ⊥) → slot_of (with_notes s es) note ≡ slot_of s note
unfolding with_notes
others_keep s last [] no_entry_lem note is none = refl
others_keep s last (e ∷ es) (entry o os) note is none =
    others_keep (with_entry s e) e.note es os note is (λ d a. none d (further a))
    ∙ other s e note (is_a_note last e o) is (none e first)

-- an entry's note has its slot
pub own_slot : (s : Session) (last : ℕ) (es : List Entry) → length s.slots ≡ 32 → AllObey last es → (e : Entry) → Among e es
    → slot_of (with_notes s es) e.note ≡ waiting_slot e.sample
unfolding with_notes
own_slot s _ _ size (no_entry_lem {last = last}) e among = elim among [ ]
own_slot s last es size (entry {es = more} o os) e first =
    others_keep (with_entry s e) e.note more os e.note (is_a_note last e o) (λ d a same. let over : e.note < d.note = above e.note more os d a in omega arith)
    ∙ own s e size
own_slot s last es size (entry {e = d} {es = more} o os) e (further a) =
    own_slot (with_entry s d) d.note more (as_many s d ∙ size) os e a

-- from the session with no note listed, with their count
pub lists_entries : (es : List Entry) → AllObey 0 es → Lists (record { slots = (with_notes empty_session es).slots; listed = length es; opened = 0 }) es
unfolding slot_of
lists_entries es o =
    record {
      slots = slots_as_many empty_session es ∙ empty.empty_slots;
      listed = λ e among. own_slot empty_session 0 es empty.empty_slots o e among ∙ slot.begins e.sample;
      others =
          λ note low high none.
          others_keep empty_session 0 es o note ((is_note_is note).1 (low, high)) none ∙ empty.empty_lists note ∙ slot.empty;
      notes = refl;
      none_open = refl;
    }

pub lists_none : Lists empty_session []
unfolding with_notes empty_session
lists_none = lists_entries [] no_entry_lem

-- a list that is not empty has a member
pub one_of : (es : List Entry) → 1 ≤ length es → (e : Entry) × Among e es
one_of [] h = absurd (omega arith)
one_of (e ∷ es) h = (e, first)

-- a note is that of an entry, or of none
some : {e : Entry} {es : List Entry} → Among e es → 1 ≤ length es
some first = omega arith
some (further a) = omega arith

not_among : {d : Entry} {es : List Entry} (note : ℕ) → (d.note ≡ note → ⊥) → ((e : Entry) → Among e es → e.note ≡ note → ⊥)
    → (e : Entry) → Among e (d ∷ es) → e.note ≡ note → ⊥
not_among note here none e first same = here same
not_among note here none e (further a) same = none e a same

pub found : (note : ℕ) (es : List Entry) → ((e : Entry) × Among e es × (e.note ≡ note)) ⊎ ((e : Entry) → Among e es → e.note ≡ note → ⊥)
found note [] = inr (λ e a same. let one = some a in omega arith)
found note (d ∷ es) =
    ⊎_elim
    (λ h. inl (d, first, eqb-true d.note note h))
    (λ h. ⊎_map (λ f. (f.0, further f.1, f.2)) (not_among note (eqb-false d.note note h)) (found note es))
    (either (eqb d.note note))

-- so the session is known slot by slot
module _ (s t : Session) (es : List Entry) (l : Lists s es) (m : Lists t es) where
  same_slot : (note : ℕ) → 1 ≤ note → note ≤ 32 → slot_of s note ≡ slot_of t note
  same_slot note low high =
      ⊎_elim
      (λ f. rw (← f.2) (l.listed f.0 f.1 ∙ sym (m.listed f.0 f.1)))
      (λ none. l.others note low high none ∙ sym (m.others note low high none))
      (found note es)

  same_place : (k : ℕ) → k < length s.slots → get_or s.slots k empty_slot ≡ get_or t.slots k empty_slot
  same_place k below =
      let size = l.slots in
      let back : k + 1 - 1 ≡ k = omega arith in
      let low : 1 ≤ k + 1 = omega arith in
      let high : k + 1 ≤ 32 = omega arith in
      rw back at (sym (slot_at s (k + 1) low high) ∙ same_slot (k + 1) low high ∙ slot_at t (k + 1) low high)

  pub one_session : s ≡ t
  one_session =
      let slots = ext_get_or empty_slot s.slots t.slots (l.slots ∙ sym m.slots) same_place in
      let listed : s.listed ≡ t.listed = l.notes ∙ sym m.notes in
      let opened : s.opened ≡ t.opened = l.none_open ∙ sym m.none_open in
      λ i. record { slots = slots i; listed = listed i; opened = opened i }
