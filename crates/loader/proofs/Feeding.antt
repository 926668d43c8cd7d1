-- A slot that is fed, in whatever session it stands; and why the feeding ends. Assumes nothing.
use Prim.Native.Nat.{ℕ, suc, ◌+◌, ◌-◌, ◌≤◌, ◌<◌}
use mathlib.Core.Path.{◌≡◌, sym, ap, ◌∙◌, subst}
use mathlib.Core.List.{List}
use mathlib.Core.Bool.{true}
use native.Mathlib.Omega.{arith}
use lib.ListN.{length, set, get_or}
use lib.Seq.{set-set}
use Rattle.refusal.specs.Table.{accepted}
use Rattle.slots.specs.Slots.{waiting, slot_in_order, bytes_taken}
use Rattle.slots.specs.Delivery.{is_listed, as_it_stands, with_piece, deliver_to, deliver_at, ask_at}
use Rattle.rules.specs.declared.Record.{Record}
use Rattle.slots.specs.declared.Slot.{Slot}
use Rattle.slots.specs.declared.Step.{Step}
use Rattle.slots.specs.declared.Answer.{Answer}
use Rattle.slots.proofs.Slots.{taken_waiting, has_room}
use Rattle.slots.proofs.Deliver.{is_taken}
use Rattle.slots.proofs.Pieces.{counted, outcome_is}
use Rattle.slots.proofs.Listed.{at_listed}
use Rattle.session.specs.Sessions.{empty_session, slot_index, slot_of, put_slot}
use Rattle.session.specs.Light.{open_after, put_counted}
use Rattle.session.specs.Operations.{deliver, ask}
use Rattle.session.specs.Promises.{Waits}
use Rattle.session.specs.declared.Session.{Session}
use Rattle.session.specs.declared.Delivered.{Delivered}
use Rattle.session.proofs.Light.{count_same}
use Rattle.session.proofs.Putting.{index_lt, put_own, put_unchanged, read_there}
use Rattle.session.proofs.Listed.{listed_is}
use Rattle.session.proofs.Proved.{proved}
use Rattle.loader.specs.Loading.{FedWhole, begun, whole, Fed, even, shorter, NoteLoaded, listed, passed, LoadedTo, next, OfSlot}

-- a slot that is put where another stood
module _ (s : Session) (all : length s.slots ≡ 32) (note : ℕ) (slot : Slot) where
  there : slot_of (put_counted s note slot) note ≡ slot
  unfolding slot_of put_counted
  there = put_own s note slot (rw all (index_lt note))

  -- and another over it: the count is as if that one had come at once, where the first had not changed the status
  over : (other : Slot) → slot.status ≡ (slot_of s note).status → put_counted (put_counted s note slot) note other ≡ put_counted s note other
  unfolding put_counted put_slot
  over other same =
      let count : open_after s.opened (slot_of s note).status slot.status ≡ s.opened = rw same (count_same s.opened (slot_of s note).status) in
      rw (there, count, set-set s.slots (slot_index note) slot other, same)

-- how many bytes a note's sample has yet to come
pub missing : Slot → ℕ
missing slot = slot.sample.length - bytes_taken slot

-- what the slot is after a piece that is taken
taken_there : (note : ℕ) (slot : Slot) (piece : List ℕ) → slot_in_order slot ≡ true → slot.status ≡ waiting → is_listed slot note ≡ true
    → length piece ≤ slot.sample.length - slot.state.total
    → deliver_at slot note piece ≡ record { answer = as_it_stands accepted (with_piece slot piece); slot = with_piece slot piece }
unfolding deliver_at
taken_there note slot piece in_order waits l room = at_listed slot note (λ t. deliver_to t piece) l ∙ is_taken slot piece in_order waits room

delivered_is : (t : Session) (note : ℕ) (piece : List ℕ) → (deliver t note piece).session ≡ put_counted t note (deliver_at (slot_of t note) note piece).slot
unfolding put_counted
delivered_is t note piece = ap (λ (d : Delivered). d.session) (proved.by_slot t note piece)

-- a piece that is accepted: the slot waited, and fewer bytes are to come
module _ (note : ℕ) (slot : Slot) (piece : List ℕ) (good : (deliver_at slot note piece).answer.number ≡ accepted) where
  abbrev held : Session
  held = put_counted empty_session note slot

  back : slot_of held note ≡ slot
  back = there empty_session proved.empty_slots note slot

  accepts : Waits held note × ((slot_of held note).state.total + length piece ≤ (slot_of held note).sample.length)
  accepts = (proved.takes held note piece).0 (ap (λ (d : Delivered). d.answer.number) (proved.by_slot held note piece) ∙ rw back good)

  pub waited : slot.status ≡ waiting
  waited = rw back at accepts.0.waiting

  pub fewer : 1 ≤ length piece → missing (deliver_at slot note piece).slot < missing slot
  unfolding missing
  fewer some =
      let in_order : slot_in_order slot ≡ true = rw back at accepts.0.in_order in
      let fits : slot.state.total + length piece ≤ slot.sample.length = rw back at accepts.1 in
      let is_listed_lem : is_listed slot note ≡ true = rw back at ((listed_is held note).1 accepts.0.listed) in
      let room = has_room slot in_order waited in
      let after : (deliver_at slot note piece).slot ≡ with_piece slot piece = ap (λ (t : Step). t.slot) (taken_there note slot piece in_order waited is_listed_lem (omega arith)) in
      let long : (with_piece slot piece).sample.length ≡ slot.sample.length =
      ap (λ (r : Record). r.length) (outcome_is slot in_order waited piece fits).keeps in
      rw after (omega (arith, counted slot in_order waited piece fits, taken_waiting slot waited))

-- a slot that is fed by full pieces, and that waits only if it waited at first
abbrev pub FedSlot : (note : ℕ) (slot now : Slot) → Type 0
FedSlot note slot now = OfSlot (FedWhole note) note slot now × (now.status ≡ waiting → slot.status ≡ waiting)

pub fed_none : (note : ℕ) (slot : Slot) → FedSlot note slot slot
fed_none note slot = (λ s all is. rw (← is, put_unchanged s note) begun, λ waits. waits)

-- one piece more, full or shorter
module _ (note : ℕ) (slot now : Slot) (so : FedSlot note slot now)
    (piece : List ℕ) (step : Step) (given : step ≡ deliver_at now note piece) (good : step.answer.number ≡ accepted) where
  waits_now : now.status ≡ waiting
  waits_now = waited note now piece (rw given at good)

  module _ (s : Session) (all : length s.slots ≡ 32) (is : slot_of s note ≡ slot) where
    same_status : now.status ≡ (slot_of s note).status
    same_status = waits_now ∙ sym (rw is (so.1 waits_now))

    answered : (deliver (put_counted s note now) note piece).answer.number ≡ accepted
    answered = ap (λ (d : Delivered). d.answer.number) (proved.by_slot (put_counted s note now) note piece) ∙ rw (there s all note now, ← given) good

    session_is : (deliver (put_counted s note now) note piece).session ≡ put_counted s note step.slot
    session_is = delivered_is (put_counted s note now) note piece ∙ rw (there s all note now, ← given) (over s all note now step.slot same_status)

  pub fed_whole : length piece ≡ 4096 → FedSlot note slot step.slot
  fed_whole full = (λ s all is. subst (FedWhole note s) (session_is s all is) (whole (so.0 s all is) piece full (answered s all is)), λ waits. so.1 waits_now)

  pub fed_shorter : 1 ≤ length piece → length piece < 4096 → OfSlot (Fed note) note slot step.slot
  fed_shorter some less s all is = subst (Fed note s) (session_is s all is) (shorter (so.0 s all is) piece some less (answered s all is))

  pub step_fewer : 1 ≤ length piece → missing step.slot < missing now
  step_fewer some = rw given (fewer note now piece (rw given at good) some)

-- nothing more comes
pub fed_so_far : (note : ℕ) (slot now : Slot) → FedSlot note slot now → OfSlot (Fed note) note slot now
fed_so_far note slot now so s all is = even (so.0 s all is)

-- a note's slot, loaded or passed by
module _ (note : ℕ) (slot : Slot) (a : Answer) (asked : a ≡ ask_at slot note) where
  ask_there : (s : Session) → slot_of s note ≡ slot → ask s note ≡ a
  ask_there s is = proved.ask_by_slot s note ∙ rw is (sym asked)

  pub slot_passed : (a.number ≡ accepted → ⊥) → OfSlot (NoteLoaded note) note slot slot
  slot_passed refused s all is = rw (← is, put_unchanged s note) (passed (rw (ask_there s is) refused))

  pub slot_fed : (after : Slot) → a.number ≡ accepted → OfSlot (Fed note) note slot after → OfSlot (NoteLoaded note) note slot after
  slot_fed after good fed s all is = listed (rw (ask_there s is) good) (fed s all is)

-- nothing is delivered
pub fed_nothing : (note : ℕ) (slot : Slot) → OfSlot (Fed note) note slot slot
fed_nothing note slot = fed_so_far note slot slot (fed_none note slot)

-- one note more of a session
module _ (t : Session) (all : length t.slots ≡ 32) (z : Slot) (note i count : ℕ) (at : i ≡ slot_index note) (after : Slot)
    (counts : count ≡ open_after t.opened (get_or t.slots i z).status after.status) where
  pub note_there : OfSlot (NoteLoaded note) note (get_or t.slots i z) after
      → NoteLoaded note t (record { slots = set t.slots i after; listed = t.listed; opened = count })
  unfolding put_counted put_slot
  note_there loaded = rw (counts, read_there t note all z i at, at) (loaded t all (sym (read_there t note all z i at)))

pub note_more : (s t u : Session) (note : ℕ) → 1 ≤ note → LoadedTo s (note - 1) t → NoteLoaded note t u → LoadedTo s ((note + 1) - 1) u
note_more s t u note one so loaded =
    let this : suc (note - 1) ≡ note = omega arith in
    let after : (note + 1) - 1 ≡ suc (note - 1) = omega arith in
    rw after (next {u = u} so (rw this loaded))
