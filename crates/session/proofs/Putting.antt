-- The slot of a note: where it stands, and what putting another there does. Assumes nothing.
use Prim.Native.Nat.{ℕ, ◌-◌, ◌≤◌, ◌<◌}
use mathlib.Core.Path.{◌≡◌, refl, sym, ap}
use mathlib.Core.Bool.{Bool, true, false}
use native.Mathlib.Omega.{arith}
use lib.ListN.{length, get_or, set}
use lib.Seq.{set-get_or, set_comm, get_or-set_same, get_or-set_other}
use Rattle.refusal.specs.Table.{unlisted}
use Rattle.rules.specs.Rules.{is_note}
use Rattle.rules.proofs.Rules.{is_note_is}
use Rattle.slots.specs.Slots.{empty_slot}
use Rattle.slots.specs.Delivery.{bare_refusal, is_listed, on_slot, ask_at}
use Rattle.slots.proofs.Listed.{at_listed, at_unlisted}
use Rattle.slots.specs.declared.Slot.{Slot}
use Rattle.slots.specs.declared.Step.{Step}
use Rattle.session.specs.Sessions.{slot_index, slot_of, put_slot}
use Rattle.session.specs.Light.{open_after, put_counted}
use Rattle.session.specs.Operations.{on_note, ask}
use Rattle.session.specs.declared.Session.{Session}
use Rattle.session.proofs.Lists.{getD_within}
use Rattle.session.proofs.Light.{count_same, counts_commute}

pub index_of_note : (note : ℕ) → is_note note ≡ true → slot_index note ≡ note - 1
unfolding slot_index
index_of_note note h = simp h

pub index_of_no_note : (note : ℕ) → is_note note ≡ false → slot_index note ≡ 0
unfolding slot_index
index_of_no_note note h = simp h

-- it is one of the 32
pub index_lt : (note : ℕ) → slot_index note < 32
index_lt note = go (is_note note) refl
  where
    go : (b : Bool) → is_note note ≡ b → slot_index note < 32
    go true h = rw (index_of_note note h) (let range = (is_note_is note).0 h in omega arith)
    go false h = rw (index_of_no_note note h) (omega arith)

-- different notes have different slots
pub indices_differ : (m n : ℕ) → (m ≡ n → ⊥) → is_note m ≡ true → is_note n ≡ true → slot_index m ≡ slot_index n → ⊥
indices_differ m n ne p q e =
    let range = (is_note_is m).0 p in
    let range' = (is_note_is n).0 q in
    let index = index_of_note m p in
    let index' = index_of_note n q in
    ne (omega arith)

-- a note's slot, counted from note 1
pub slot_at : (s : Session) (note : ℕ) → 1 ≤ note → note ≤ 32 → slot_of s note ≡ get_or s.slots (note - 1) empty_slot
unfolding slot_of
slot_at s note low high = rw (index_of_note note ((is_note_is note).1 (low, high)))

-- the laws of putting a slot
pub put_own : (s : Session) (note : ℕ) (slot : Slot) → slot_index note < length s.slots → slot_of (put_slot s note slot) note ≡ slot
unfolding slot_of put_slot
put_own s note slot within = get_or-set_same s.slots (slot_index note) slot empty_slot within

pub put_other : (s : Session) (m n : ℕ) (slot : Slot) → (slot_index n ≡ slot_index m → ⊥) → slot_of (put_slot s m slot) n ≡ slot_of s n
unfolding slot_of put_slot
put_other s m n slot differ = get_or-set_other s.slots (slot_index m) (slot_index n) slot empty_slot differ

pub put_back : (s : Session) (note : ℕ) → put_slot s note (slot_of s note) ≡ s
unfolding slot_of put_slot
put_back s note = ap (λ l. record { slots = l; listed = s.listed; opened = s.opened }) (set-get_or s.slots (slot_index note) empty_slot)

-- the same of a slot that is put with its count
pub put_unchanged : (s : Session) (note : ℕ) → put_counted s note (slot_of s note) ≡ s
unfolding put_counted
put_unchanged s note =
    let back : (put_slot s note (slot_of s note)).slots ≡ s.slots = ap (λ (t : Session). t.slots) (put_back s note) in
    rw (back, count_same s.opened (slot_of s note).status)

pub counted_other : (s : Session) (m n : ℕ) (slot : Slot) → (slot_index n ≡ slot_index m → ⊥) → slot_of (put_counted s m slot) n ≡ slot_of s n
unfolding slot_of put_counted
counted_other s m n slot differ = put_other s m n slot differ

pub put_both : (s : Session) (m n : ℕ) (a b : Slot) → (slot_index m ≡ slot_index n → ⊥)
    → put_counted (put_counted s m a) n b ≡ put_counted (put_counted s n b) m a
unfolding put_counted put_slot
put_both s m n a b differ =
    rw (
      counted_other s m n a (λ e. differ (sym e)),
      counted_other s n m b differ,
      set_comm s.slots (slot_index m) (slot_index n) a b differ,
      counts_commute s.opened (slot_of s m).status a.status (slot_of s n).status b.status,
    )

module _ (s : Session) (note : ℕ) where
  pub on_listed : (f : Slot → Step) → is_listed (slot_of s note) note ≡ true
      → on_note s note f ≡ record { answer = (f (slot_of s note)).answer; session = put_counted s note (f (slot_of s note)).slot }
  unfolding on_note
  on_listed f h = rw (at_listed (slot_of s note) note f h)

  pub on_unlisted : (f : Slot → Step) → is_listed (slot_of s note) note ≡ false → on_note s note f ≡ record { answer = bare_refusal unlisted; session = s }
  unfolding on_note
  on_unlisted f h = rw (at_unlisted (slot_of s note) note f h, put_unchanged s note)

  -- as the code does it: what is read at the index is the note's slot, whatever a read past the end gives
  module _ (all : length s.slots ≡ 32) (z : Slot) (i : ℕ) (at : i ≡ slot_index note) where
    pub read_there : get_or s.slots i z ≡ slot_of s note
    unfolding slot_of
    read_there = rw at (getD_within s.slots (slot_index note) z empty_slot (rw all (index_lt note)))

    -- with the open count that the code has
    pub put_there : (f : Slot → Step) (step : Step) (count : ℕ) → step ≡ on_slot (get_or s.slots i z) note f
        → count ≡ open_after s.opened (get_or s.slots i z).status step.slot.status
        → record { answer = step.answer; session = record { slots = set s.slots i step.slot; listed = s.listed; opened = count } } ≡ on_note s note f
    unfolding on_note put_counted put_slot
    put_there f step count h c = rw (c, h, read_there, at)

    pub asked_there : ask_at (get_or s.slots i z) note ≡ ask s note
    unfolding ask
    asked_there = rw read_there
