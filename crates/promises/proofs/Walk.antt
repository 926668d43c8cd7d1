-- The walk over the slots, in words, and where the light is its answer. Assumes nothing.
use Prim.Native.Nat.{ℕ, suc, ◌-◌, ◌≤◌, ◌<◌}
use mathlib.Core.Path.{◌≡◌, sym, ◌∙◌}
use mathlib.Core.Logic.{◌↔◌}
use mathlib.Core.Bool.{true, false}
use native.Mathlib.Omega.{arith}
use lib.ListN.{length, get_or}
use Rattle.truth.proofs.Tests.{agree, first, second, both, never}
use Rattle.slots.specs.Slots.{empty_slot}
use Rattle.session.specs.Sessions.{slot_of}
use Rattle.session.specs.Light.{ready}
use Rattle.session.specs.declared.Session.{Session}
use Rattle.session.proofs.Proved.{proved as session}
use Rattle.promises.specs.Light.{some_listed, listed_open, walk, RankReady, CountsFit}
use Rattle.promises.proofs.Counting.{listed_is, open_is, some_counted, fully, some_place, place_some, all_places, places_all}

-- a note and its place among the slots
module _ (s : Session) (all : length s.slots ≡ 32) where
  there : (i : ℕ) → i < 32 → slot_of s (suc i) ≡ get_or s.slots i empty_slot
  there i low =
      let place : suc i - 1 ≡ i = omega arith in
      rw place at (session.places s (suc i) (omega arith) (omega arith))

  by_place : (note : ℕ) → 1 ≤ note → note ≤ 32 → slot_of s note ≡ get_or s.slots (note - 1) empty_slot
  by_place = session.places s

  pub walk_is : (walk s ≡ true) ↔ RankReady s
  unfolding walk
  walk_is = (
    λ h.
        let (i, (low, listed)) = some_place empty_slot s.slots (first (some_listed s.slots) _ h) in
        record {
          some = (suc i, (omega arith, omega arith, λ none. (listed_is (get_or s.slots i empty_slot)).0 listed (rw (there i (omega arith)) at none)));
          every = λ note (low, high, listed).
              let at = by_place note low high in
              rw at
              ((open_is (get_or s.slots (note - 1) empty_slot)).0
              (all_places empty_slot s.slots (second (some_listed s.slots) _ h) (note - 1) (omega arith, (listed_is _).1 (rw at at listed))));
        },
    λ r.
        let (note, (low, high, listed)) = r.some in
        both (some_listed s.slots) (listed_open s.slots)
        (place_some empty_slot s.slots (note - 1) (omega arith, (listed_is _).1 (rw (by_place note low high) at listed)))
        (places_all empty_slot s.slots
        (λ i (low, listed).
        let at = there i (omega arith) in
        (open_is _).1 (rw at at (r.every (suc i) (omega arith, omega arith, λ none. (listed_is _).0 listed (rw at at none)))))),
  )

-- where the counts are those of the slots, the light is the walk's
pub light_is_walk : (s : Session) → CountsFit s → ready s ≡ walk s
unfolding walk
light_is_walk s fit =
    let some = some_counted s.slots in
    let full = fully s.slots in
    agree (ready s) _
    (λ h.
    let (same, lit) = (session.lights s.listed s.opened).0 (rw (session.ready_by s) at h) in
    both (some_listed s.slots) (listed_open s.slots) (some.1 (λ none. lit (omega (arith, same, fit.listed, none))))
    (full.1.1 (sym fit.listed ∙ same ∙ fit.opened)))
    (λ h.
    rw (session.ready_by s)
    ((session.lights s.listed s.opened).1 (
      fit.listed ∙ full.1.0 (second (some_listed s.slots) _ h) ∙ sym fit.opened,
      λ none. some.0 (first (some_listed s.slots) _ h) (omega (arith, fit.opened, none, full.1.0 (second (some_listed s.slots) _ h))),
    )))

pub dark : (s : Session) → s.opened ≡ 0 → ready s ≡ false
dark s none = never _ (λ lit. ((session.lights s.listed s.opened).0 (rw (session.ready_by s) at lit)).1 none)
