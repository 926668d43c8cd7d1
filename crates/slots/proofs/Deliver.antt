-- A delivery to a listed slot, and asking one, case by case. Assumes nothing.
use Prim.Native.Nat.{ℕ, ◌-◌, ◌≤◌, ◌<◌}
use mathlib.Core.Path.{◌≡◌, refl, ◌∙◌}
use mathlib.Core.List.{List}
use mathlib.Core.Bool.{Bool, true, false, cond}
use borrow.Author.Tests.{eq-eqb, ne_eqb, le-leb, lt-leb, lt-ltb, le-ltb}
use lib.ListN.{length}
use Rattle.refusal.specs.Table.{accepted, slot_not_in_order, decided, past_length}
use Rattle.std.specs.Prelude.{Result, Ok, Err}
use Rattle.std.specs.Result.{result_unwrap_or}
use Rattle.refusal.specs.declared.Refusal.{Refusal}
use Rattle.hash.specs.State.{fresh}
use Rattle.hash.specs.Update.{update}
use Rattle.hash.specs.Digests.{compare_state}
use Rattle.hash.specs.Told.{updated_of, compared_of}
use Rattle.hash.specs.declared.Hash.{Hash}
use Rattle.hash.specs.declared.Updated.{Updated}
use Rattle.slots.specs.Slots.{waiting, opened, shut, slot_in_order, bytes_taken}
use Rattle.slots.specs.Delivery.{bare_refusal, as_it_stands, decided_slot, with_piece, deliver_to, ask_of}
use Rattle.slots.specs.declared.Slot.{Slot}
use Rattle.slots.proofs.Slots.{has_room}

-- an answer as a slot stands
pub stands : (number t : ℕ) (s : Slot) → t ≡ bytes_taken s → record { number = number; status = s.status; taken = t } ≡ as_it_stands number s
unfolding as_it_stands
stands number t s h = rw h

module _ (s : Slot) (piece : List ℕ) where
  pub not_in_order : slot_in_order s ≡ false → deliver_to s piece ≡ record { answer = bare_refusal slot_not_in_order; slot = s }
  unfolding deliver_to
  not_in_order o = simp o

  pub is_decided_lem : slot_in_order s ≡ true → (s.status ≡ waiting → ⊥) → deliver_to s piece ≡ record { answer = as_it_stands decided s; slot = s }
  unfolding deliver_to
  is_decided_lem o w = simp (o, ne_eqb s.status waiting w)

  pub runs_past : slot_in_order s ≡ true → s.status ≡ waiting → s.sample.length - s.state.total < length piece
      → deliver_to s piece ≡ record { answer = as_it_stands past_length s; slot = s }
  unfolding deliver_to
  runs_past o w l = simp (o, eq-eqb s.status waiting w, lt-leb (length piece) (s.sample.length - s.state.total) l)

  pub is_taken : slot_in_order s ≡ true → s.status ≡ waiting → length piece ≤ s.sample.length - s.state.total
      → deliver_to s piece ≡ record { answer = as_it_stands accepted (with_piece s piece); slot = with_piece s piece }
  unfolding deliver_to
  is_taken o w l = simp (o, eq-eqb s.status waiting w, le-leb (length piece) (s.sample.length - s.state.total) l)

-- a piece that is taken, short of the length and up to it
module _ (s : Slot) (piece : List ℕ) (u : Updated) (e : u ≡ update s.state piece) where
  pub waits_on : u.state.total < s.sample.length → with_piece s piece ≡ record { sample = s.sample; state = u.state; status = waiting }
  unfolding with_piece
  waits_on l = rw (← e) (simp (lt-ltb u.state.total s.sample.length l))

  pub decides : s.sample.length ≤ u.state.total → with_piece s piece ≡ decided_slot s u.state
  unfolding with_piece
  decides l = rw (← e) (simp (le-ltb u.state.total s.sample.length l))

-- as update and matches tell it
state_told : (h : Hash) (r : Result Hash Refusal) → result_unwrap_or r h ≡ (updated_of h r).state
state_told h (Ok after) = refl
state_told h (Err refusal) = refl

same_told : (r : Result Bool Refusal) → result_unwrap_or r false ≡ (compared_of r).same
same_told (Ok same) = refl
same_told (Err refusal) = refl

module _ (s : Slot) (piece : List ℕ) (r : Result Hash Refusal) (told : updated_of s.state r ≡ update s.state piece)
    (h : Hash) (is : h ≡ result_unwrap_or r s.state) where
  held : h ≡ (updated_of s.state r).state
  held = is ∙ state_told s.state r

  pub waits_told : h.total < s.sample.length → with_piece s piece ≡ record { sample = s.sample; state = h; status = waiting }
  waits_told l = let k = held in waits_on s piece (updated_of s.state r) told (rw (← k) l) ∙ rw (← k)

  pub decides_told : s.sample.length ≤ h.total → with_piece s piece ≡ decided_slot s h
  decides_told l = let k = held in decides s piece (updated_of s.state r) told (rw (← k) l) ∙ rw (← k)

pub decided_told : (s : Slot) (h : Hash) (r : Result Bool Refusal) → compared_of r ≡ compare_state h s.sample.digest
    → (state : Hash) → state ≡ fresh → (status : ℕ) → status ≡ cond (result_unwrap_or r false) opened shut
    → record { sample = s.sample; state = state; status = status } ≡ decided_slot s h
unfolding decided_slot
decided_told s h r told state f status e = rw (f, e, same_told r, told)

pub ruleset pieces = (waits_told, decides_told)

module _ (s : Slot) where
  pub asked : slot_in_order s ≡ true → ask_of s ≡ as_it_stands accepted s
  unfolding ask_of
  asked o = simp o

  pub asked_not_in_order : slot_in_order s ≡ false → ask_of s ≡ bare_refusal slot_not_in_order
  unfolding ask_of
  asked_not_in_order o = simp o

pub ruleset deliveries = (has_room, not_in_order, is_decided_lem, runs_past, is_taken)
