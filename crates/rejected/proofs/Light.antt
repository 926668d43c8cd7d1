-- Other lights, and counts that are not those of the slots. Assumes nothing.
use Prim.Native.Nat.{ℕ, ◌+◌, ◌-◌, ◌≤◌, ◌<◌}
use mathlib.Core.Path.{◌≡◌, refl, sym, ap, ◌∙◌}
use mathlib.Core.List.{List, [], ◌∷◌, ◌++◌}
use mathlib.Core.Bool.{Bool, true, false, cond}
use native.Mathlib.Omega.{arith}
use lib.ListN.{length, replicate, length-replicate, length-append}
use Rattle.truth.proofs.Tests.{never}
use Rattle.hash.specs.State.{fresh}
use Rattle.hash.specs.Update.{update}
use Rattle.hash.specs.Digests.{finish}
use Rattle.rules.specs.Promises.{Obeyed}
use Rattle.rules.specs.declared.Record.{Record}
use Rattle.slots.specs.Slots.{empty_slot}
use Rattle.slots.specs.Delivery.{with_piece}
use Rattle.slots.specs.declared.Slot.{Slot}
use Rattle.slots.proofs.Proved.{proved as slots}
use Rattle.session.specs.Sessions.{empty_session, slot_of, put_slot}
use Rattle.session.specs.Light.{all_open, ready}
use Rattle.session.specs.Operations.{deliver}
use Rattle.session.specs.Promises.{Waits, Opening, row0}
use Rattle.session.specs.declared.Session.{Session}
use Rattle.session.specs.declared.Delivered.{Delivered}
use Rattle.session.proofs.Proved.{proved as session}
use Rattle.promises.specs.Light.{slot_listed, slot_open, how_many, CountsFit, WalksOf}
use Rattle.promises.proofs.Counting.{counts_first, same_many}
use Rattle.promises.proofs.Proved.{proved as promises}
use Rattle.rejected.specs.Promises.{GoesDark}
use Rattle.rejected.proofs.Example.{fresh_in_order}

-- slots, one after the other
counts_both : (test : Slot → Bool) (l m : List Slot) → how_many test (l ++ m) ≡ how_many test l + how_many test m
unfolding how_many
counts_both test [] m = omega arith
counts_both test (x ∷ l) m =
    let rest = counts_both test l m in
    let more = counts_first test x (l ++ m) _ refl in
    let first = counts_first test x l _ refl in
    omega arith

-- so many slots that are open, so many that wait, and the rest unlisted
of_status : ℕ → Slot
of_status n = record { sample = empty_slot.sample; state = fresh; status = n }

module _ (listed opened : ℕ) (within : opened ≤ listed) (most : listed ≤ 32) where
  front : List Slot
  front = replicate opened (of_status 2) ++ replicate (listed - opened) (of_status 1)

  rest : List Slot
  rest = replicate (32 - listed) (of_status 0)

  rank : Session
  rank = record { slots = front ++ rest; listed = listed; opened = opened }

  counted : (test : Slot → Bool) (a b c : Bool) → test (of_status 2) ≡ a → test (of_status 1) ≡ b → test (of_status 0) ≡ c
      → how_many test (front ++ rest) ≡ cond a opened 0 + cond b (listed - opened) 0 + cond c (32 - listed) 0
  unfolding front rest
  counted test a b c e f g =
      counts_both test front rest
      ∙ rw (counts_both test (replicate opened (of_status 2)) (replicate (listed - opened) (of_status 1)), same_many test (of_status 2) opened a e, same_many test (of_status 1) (listed - opened) b f, same_many test (of_status 0) (32 - listed) c g)

  long : length (front ++ rest) ≡ 32
  unfolding front rest
  long =
      length-append front rest
      ∙ rw (length-append (replicate opened (of_status 2)) (replicate (listed - opened) (of_status 1)), length-replicate opened (of_status 2), length-replicate (listed - opened) (of_status 1), length-replicate (32 - listed) (of_status 0))
      (omega arith)

  fits : CountsFit rank
  unfolding rank of_status slot_listed slot_open
  fits =
      record {
        slots = long;
        listed = sym (counted slot_listed true true false refl refl refl ∙ omega arith);
        opened = sym (counted slot_open true false false refl refl refl ∙ omega arith);
      }

  pub no_other_light : (light : (listed opened : ℕ) → Bool) → (light listed opened ≡ all_open listed opened → ⊥)
      → WalksOf (λ s. light s.listed s.opened) → ⊥
  unfolding rank
  no_other_light light differs walks = differs (walks rank fits ∙ sym (promises.light.fits_walk rank fits) ∙ session.ready_by rank)

-- a slot whose digest is what final answers, two bytes before its end
abbrev pub two : List ℕ
two = 0 ∷ 0 ∷ []

unfoldable pub fitting : Record
fitting = record { length = 2; loop_start = 0; loop_end = 0; digest = (finish (update fresh two).state).bytes }

pub fitting_obeys : Obeyed fitting
unfolding fitting
fitting_obeys = record { even = refl; at_least = omega arith; at_most = omega arith; forward = omega arith; within = omega arith }

-- a delivery that opens a note below 32, where the counts were equal
pub turns_dark : (s : Session) (note : ℕ) (piece : List ℕ) → ready s ≡ true → s.opened < 32 → Opening s note piece → ready (deliver s note piece).session ≡ false
turns_dark s note piece lit low opening =
    let same = ((session.lights s.listed s.opened).0 (rw (session.ready_by s) at lit)).0 in
    let counts = session.counts s note piece in
    never _ (λ still.
    let then = ((session.lights _ _).0 (rw (session.ready_by (deliver s note piece).session) at still)).0 in
    omega (arith, same, then, counts.listed, counts.opening opening low))

-- 1 and 1, and note 1 waits for two bytes
last_two : Slot
last_two = record { sample = fitting; state = fresh; status = 1 }

pub one_one : Session
one_one = record { slots = (put_slot empty_session 1 last_two).slots; listed = 1; opened = 1 }

there : slot_of one_one 1 ≡ last_two
unfolding one_one slot_of
there = session.put_own empty_session 1 last_two session.empty_slots

waits : Waits one_one 1
unfolding last_two
waits =
    record {
      listed = (omega arith, omega arith, rw there (λ none. omega arith));
      in_order = rw there (fresh_in_order fitting fitting_obeys);
      waiting = rw there;
    }

reaches : (slot_of one_one 1).state.total + length two ≤ (slot_of one_one 1).sample.length
unfolding last_two fitting fresh
reaches = rw there (omega arith)

fits_then : (with_piece (slot_of one_one 1) two).status ≡ 2
unfolding last_two fitting fresh
fits_then = rw there (((slots.outcome last_two two (fresh_in_order fitting fitting_obeys) refl (omega arith)).opens refl).1 refl)

opens : Opening one_one 1 two
opens = (
  (session.takes one_one 1 two).1 (waits, reaches),
  sym (ap (λ (d : Delivered). d.answer.status) ((session.table one_one 1 two _).1 (row0 waits reaches))) ∙ fits_then,
)

pub goes_dark_then : GoesDark one_one 1 two
unfolding one_one
goes_dark_then =
    let lit = session.ready_by one_one ∙ (session.lights 1 1).1 (refl, λ none. omega arith) in
    record {
      listed = refl;
      opened = refl;
      waits = waits;
      lit = lit;
      dark = turns_dark one_one 1 two lit (omega arith) opens;
    }
