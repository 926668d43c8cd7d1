-- An operation on one note looks at its own slot only, and leaves every other as it was. Of any operation, and from any session.
use mathlib.Core.Path.{◌≡◌, refl, sym, ap, ◌∙◌}
use mathlib.Core.Logic.{◌≢◌}
use mathlib.Core.Bool.{Bool, true, false, true≢false}
use Prim.Native.Nat.{ℕ, zero, suc, ◌<◌, ◌≤◌}
use native.Mathlib.Omega.{arith}
use native.Mathlib.Decide.{dec_lt}
use lib.Dec.{eqb}
use lib.ListN.{length, get_or, get_or-eq_default}
use lib.Seq.{get_or-set_same, get_or-set_other}
use Rattle.refusal.specs.Table.{unlisted}
use Rattle.truth.proofs.Tests.{second}
use Rattle.slots.specs.Slots.{none, empty_slot}
use Rattle.rules.specs.Rules.{is_note}
use Rattle.rules.proofs.Rules.{is_note_is}
use Rattle.slots.specs.Delivery.{bare_refusal, is_listed, on_slot, ask_at}
use Rattle.session.specs.Sessions.{slot_index, slot_of, put_slot}
use Rattle.session.specs.Light.{put_counted}
use Rattle.session.specs.Operations.{on_note, ask}
use Rattle.slots.specs.declared.Slot.{Slot}
use Rattle.slots.specs.declared.Step.{Step}
use Rattle.slots.specs.declared.Answer.{Answer}
use Rattle.session.specs.declared.Session.{Session}
use Rattle.session.specs.declared.Delivered.{Delivered}
use Rattle.session.specs.Promises.{Unlisted}
use Rattle.slots.proofs.Listed.{listed_note, no_note}
use Rattle.session.proofs.Listed.{unlisted_is}
use Rattle.slots.proofs.Listed.{at_listed, at_unlisted, ask_at_unlisted}
use Rattle.session.proofs.Putting.{index_of_note, put_unchanged, on_listed, on_unlisted}

-- a note's slot; note 0 has an empty one
pub view : Session → ℕ → Slot
view s zero = empty_slot
view s (suc i) = get_or s.slots i empty_slot

pub slotOf_view : (s : Session) (note : ℕ) → is_note note ≡ true → slot_of s note ≡ view s note
unfolding slot_of view
slotOf_view s zero h = let low = ((is_note_is 0).0 h).0 in absurd (omega arith)
slotOf_view s (suc i) h =
    let place : slot_index (suc i) ≡ i = index_of_note (suc i) h ∙ omega arith in
    rw place

pub isListed_view : (s : Session) (note : ℕ) → is_listed (slot_of s note) note ≡ is_listed (view s note) note
isListed_view s note = go (is_note note) refl
  where
    go : (b : Bool) → is_note note ≡ b → is_listed (slot_of s note) note ≡ is_listed (view s note) note
    go true h = rw (slotOf_view s note h)
    go false h = no_note (slot_of s note) note h ∙ sym (no_note (view s note) note h)

-- whether a slot says that its note is listed
pub is_listed_lem : (slot : Slot) (note : ℕ) → 1 ≤ note → note ≤ 32 → eqb slot.status none ≡ false → is_listed slot note ≡ true
unfolding is_listed
is_listed_lem slot note l h a = rw ((is_note_is note).1 (l, h), a)

pub omitted : (s : Session) (note : ℕ) → Unlisted s note → is_listed (view s note) note ≡ false
omitted s note u = sym (isListed_view s note) ∙ (unlisted_is s note).1 u

-- an operation on a note that is not listed, and on one that is
module _ (s : Session) (f : Slot → Step) where
  nothing_done : (note : ℕ) → is_listed (view s note) note ≡ false → on_note s note f ≡ record { answer = bare_refusal unlisted; session = s }
  nothing_done note h = on_unlisted s note f (isListed_view s note ∙ h)

  module _ (i : ℕ) (h : is_listed (view s (suc i)) (suc i) ≡ true) where
    -- it has a place among the slots: past the last there is an empty one
    placed : i < length s.slots
    unfolding view is_listed empty_slot
    placed =
        elim (dec_lt i (length s.slots)) [
          | yes p ↦ p
          | no p ↦ absurd (true≢false (sym (second (is_note (suc i)) _ h) ∙ rw (get_or-eq_default s.slots empty_slot {n = i} (omega arith))))
        ]

    done : on_note s (suc i) f
        ≡ record { answer = (f (view s (suc i))).answer; session = put_counted s (suc i) (f (view s (suc i))).slot }
    done =
        let is = listed_note (view s (suc i)) (suc i) h in
        on_listed s (suc i) f (isListed_view s (suc i) ∙ h) ∙ rw (slotOf_view s (suc i) is)

    -- the slot that is put there is its own, and no other
    index : slot_index (suc i) ≡ i
    index = index_of_note (suc i) (listed_note (view s (suc i)) (suc i) h) ∙ omega arith

    view_own : (slot : Slot) → view (put_counted s (suc i) slot) (suc i) ≡ slot
    unfolding view put_counted put_slot
    view_own slot = rw index (get_or-set_same s.slots i slot empty_slot placed)

    view_other : (slot : Slot) (j : ℕ) → (j ≡ i → ⊥) → view (put_counted s (suc i) slot) (suc j) ≡ view s (suc j)
    unfolding view put_counted put_slot
    view_other slot j d = rw index (get_or-set_other s.slots i j slot empty_slot d)

-- what an operation answers, and what becomes of its own slot, by that slot alone
abbrev Own : Session → ℕ → (Slot → Step) → Type 0
Own s note f =
    ((on_note s note f).answer ≡ (on_slot (view s note) note f).answer) × (view (on_note s note f).session note ≡ (on_slot (view s note) note f).slot)

own_unlisted : (s : Session) (note : ℕ) (f : Slot → Step) → is_listed (view s note) note ≡ false → Own s note f
own_unlisted s note f h = rw (nothing_done s f note h, at_unlisted (view s note) note f h) (refl, refl)

own_by : (s : Session) (i : ℕ) (f : Slot → Step) (b : Bool) → is_listed (view s (suc i)) (suc i) ≡ b → Own s (suc i) f
own_by s i f true h = rw (done s f i h, at_listed (view s (suc i)) (suc i) f h) (refl, view_own s f i h _)
own_by s i f false h = own_unlisted s (suc i) f h

pub own : (s : Session) (note : ℕ) (f : Slot → Step) → Own s note f
unfolding is_listed is_note
own s zero f = own_unlisted s zero f refl
own s (suc i) f = own_by s i f _ refl

-- every other slot stays
other_by : (s : Session) (note : ℕ) (f : Slot → Step) (b : Bool) → is_listed (view s note) note ≡ b → (m : ℕ) → m ≢ note
    → view (on_note s note f).session m ≡ view s m
unfolding view
other_by s note f b h zero d = refl
other_by s note f false h (suc j) d = rw (nothing_done s f note h)
other_by s zero f true h (suc j) d = let low = ((is_note_is 0).0 (listed_note (view s 0) 0 h)).0 in absurd (omega arith)
other_by s (suc i) f true h (suc j) d = rw (done s f i h) (view_other s f i h _ j (λ e. d (ap suc e)))

pub other : (s : Session) (note : ℕ) (f : Slot → Step) (m : ℕ) → m ≢ note → view (on_note s note f).session m ≡ view s m
other s note f = other_by s note f _ refl

-- asking goes by that slot too
pub asks : (s : Session) (note : ℕ) → ask s note ≡ ask_at (view s note) note
unfolding ask
asks s note = go (is_note note) refl
  where
    go : (b : Bool) → is_note note ≡ b → ask_at (slot_of s note) note ≡ ask_at (view s note) note
    go true h = rw (slotOf_view s note h)
    go false h = ask_at_unlisted (slot_of s note) note (no_note (slot_of s note) note h) ∙ sym (ask_at_unlisted (view s note) note (no_note (view s note) note h))

-- an operation that leaves its slot as it was leaves the session as it was
pub unchanged : (s : Session) (note : ℕ) (f : Slot → Step) → (on_slot (view s note) note f).slot ≡ view s note → (on_note s note f).session ≡ s
unfolding on_note
unchanged s note f h = go (is_note note) refl
  where
    go : (b : Bool) → is_note note ≡ b → (on_note s note f).session ≡ s
    go true is = rw (slotOf_view s note is, h, ← slotOf_view s note is) (put_unchanged s note)
    go false is_none = ap (λ (d : Delivered). d.session) (on_unlisted s note f (no_note (slot_of s note) note is_none))

-- answers and sessions, put together
pub parts : {a a' : Answer} {s s' : Session} → a ≡ a' → s ≡ s' → ◌≡◌ {A = Delivered} (record { answer = a; session = s }) (record { answer = a'; session = s' })
parts e f = λ i. record { answer = e i; session = f i }
