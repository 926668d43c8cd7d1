-- Deliveries keep the counts those of the slots, and the light on. Assumes nothing.
use Prim.Native.Nat.{ℕ, ◌+◌, ◌≤◌, ◌<◌}
use mathlib.Core.Path.{◌≡◌, refl, sym, ap, ◌∙◌}
use mathlib.Core.Logic.{⊎_elim}
use mathlib.Core.List.{List, [], ◌∷◌}
use mathlib.Core.Bool.{Bool, true, false, true≢false}
use native.Mathlib.Omega.{arith}
use lib.ListN.{length, set, length-set}
use Rattle.truth.proofs.Tests.{either, below_or_not}
use Rattle.refusal.specs.Table.{accepted}
use Rattle.slots.specs.Slots.{empty_slot}
use Rattle.slots.specs.Delivery.{with_piece}
use Rattle.slots.specs.Promises.{Outcome}
use Rattle.slots.specs.declared.Slot.{Slot}
use Rattle.slots.proofs.Proved.{proved as slots}
use Rattle.session.specs.Sessions.{slot_index, slot_of, put_slot}
use Rattle.session.specs.Light.{ready, open_after}
use Rattle.session.specs.Operations.{Operation, delivery, deliver, perform}
use Rattle.session.specs.Promises.{Waits, Row, row5, row6, row7, row8, row0}
use Rattle.session.specs.declared.Session.{Session}
use Rattle.session.specs.declared.Delivered.{Delivered}
use Rattle.session.proofs.Proved.{proved as session}
use Rattle.session.proofs.Putting.{index_lt}
use Rattle.promises.specs.Sequences.{after}
use Rattle.promises.specs.Light.{slot_listed, slot_open, how_many, CountsFit}
use Rattle.promises.proofs.Counting.{listed_is, open_is, shut_is, one, counts_set, at_most}
use Rattle.promises.proofs.Walk.{walk_is, light_is_walk}

-- a delivery keeps the counts those of the slots
module _ (s : Session) (fit : CountsFit s) (note : ℕ) (piece : List ℕ) where
  -- the slot of a note that waited, with the piece
  module _ (w : Waits s note) (fits : (slot_of s note).state.total + length piece ≤ (slot_of s note).sample.length) where
    abbrev now : Slot
    now = with_piece (slot_of s note) piece

    outcome : Outcome (slot_of s note) piece now
    outcome = slots.outcome (slot_of s note) piece w.in_order w.waiting fits

    -- it is listed still
    listed_still : now.status ≡ 0 → ⊥
    listed_still none =
        ⊎_elim
        (λ fewer. let waits : now.status ≡ 1 = ap (λ (x : Slot). x.status) (outcome.waits fewer) in absurd (omega arith))
        (λ most.
        let reached : (slot_of s note).state.total + length piece ≡ (slot_of s note).sample.length = omega arith in
        let shut : now.status ≡ 3 = (outcome.shuts reached).1 (λ fitting. let opens : now.status ≡ 2 = (outcome.opens reached).1 fitting in absurd (omega arith)) in
        absurd (omega arith))
        (below_or_not ((slot_of s note).state.total + length piece) (slot_of s note).sample.length)

    abbrev put : List Slot
    put = set s.slots (slot_index note) now

    counted : (test : Slot → Bool) (a b : Bool) → test (slot_of s note) ≡ a → test now ≡ b → how_many test put + one a ≡ how_many test s.slots + one b
    unfolding slot_of
    counted test a b e f = rw (← e, ← f) (counts_set test s.slots (slot_index note) now empty_slot (rw fit.slots (index_lt note)))

    still_as_many : how_many slot_listed put ≡ how_many slot_listed s.slots
    unfolding one
    still_as_many =
        let waits = w.waiting in
        let same = counted slot_listed true true ((listed_is _).1 (λ none. absurd (omega arith))) ((listed_is _).1 listed_still) in
        omega arith

    opened_as_many : open_after s.opened 1 now.status ≡ how_many slot_open put
    unfolding one
    opened_as_many =
        let waits = w.waiting in
        let was = shut_is (slot_of s note) (λ is_open. absurd (omega arith)) in
        let count = (session.open_count s.opened 1 now.status _).0 refl in
        ⊎_elim
        (λ is.
        let more = counted slot_open false true was is in
        let most = at_most slot_open put in
        let long = length-set s.slots (slot_index note) now in
        let low : s.opened < 32 = omega (arith, fit.slots, fit.opened) in
        count.opening (λ h. absurd (omega arith)) ((open_is now).0 is) low ∙ omega (arith, fit.opened))
        (λ is.
        let same = counted slot_open false false was is in
        count.not_opened (λ is_open. absurd (true≢false (sym ((open_is now).1 is_open) ∙ is))) ∙ fit.opened ∙ omega arith)
        (either (slot_open now))

    taken_fit : CountsFit (record { slots = (put_slot s note now).slots; listed = s.listed; opened = open_after s.opened 1 now.status })
    unfolding put_slot
    taken_fit =
        record {
          slots = length-set s.slots (slot_index note) now ∙ fit.slots;
          listed = fit.listed ∙ sym still_as_many;
          opened = opened_as_many;
        }

  by_row : {d : Delivered} → Row s note piece d → CountsFit d.session
  by_row (row5 u) = fit
  by_row (row6 l x) = fit
  by_row (row7 d) = fit
  by_row (row8 w e) = fit
  by_row (row0 w e) = taken_fit w e

  one_kept : CountsFit (deliver s note piece).session
  one_kept = by_row ((session.table s note piece (deliver s note piece)).0 refl)

  -- where the light is on every listed note is open, so nothing is accepted
  pub all_refused : ready s ≡ true → ((deliver s note piece).answer.number ≡ accepted → ⊥) × ((deliver s note piece).session ≡ s)
  all_refused lit =
      let yes_all = (walk_is s fit.slots).0 (sym (light_is_walk s fit) ∙ lit) in
      let never_taken : (deliver s note piece).answer.number ≡ accepted → ⊥ =
      λ h. let w = ((session.takes s note piece).0 h).0 in absurd (omega (arith, w.waiting, yes_all.every note w.listed)) in
      (never_taken, session.refused s note piece never_taken)

pub kept_all : (s : Session) (os : List Operation) → CountsFit s → CountsFit (after s os)
unfolding after
kept_all s [] fit = fit
kept_all s (delivery note piece ∷ os) fit = kept_all (perform s (delivery note piece)).session os (rw (session.delivers s note piece) (one_kept s fit note piece))

pub stays_lit : (s : Session) (os : List Operation) → CountsFit s → ready s ≡ true → after s os ≡ s
unfolding after
stays_lit s [] fit lit = refl
stays_lit s (delivery note piece ∷ os) fit lit =
    let same : (perform s (delivery note piece)).session ≡ s = rw (session.delivers s note piece) (all_refused s fit note piece lit).1 in
    rw same (stays_lit s os fit lit)

pub listed_after : (s : Session) (os : List Operation) → (after s os).listed ≡ s.listed
unfolding after
listed_after s [] = refl
listed_after s (delivery note piece ∷ os) = listed_after (perform s (delivery note piece)).session os ∙ rw (session.delivers s note piece) (session.counts s note piece).listed
