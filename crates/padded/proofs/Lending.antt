-- The part that is lent of the message or of the buffer, by its place: it lies inside, and it has the bytes and the address that are promised.
-- Assumes nothing.
use Prim.Native.Nat.{ℕ, ◌+◌, ◌-◌, ◌/◌, ◌<◌, ◌≤◌}
use mathlib.Core.Path.{◌≡◌, refl}
use mathlib.Core.Logic.{◌⊎◌, inl, inr, ⊎_elim}
use mathlib.Core.List.{List}
use native.Mathlib.Decide.{dec_lt, ℕ_discrete}
use native.Mathlib.Omega.{arith}
use borrow.Author.Tests.{eq-eqb, ne_eqb, eqb-true, eqb-false}
use lib.Dec.{eqb}
use lib.ListN.{length, take, drop}
use denote.Ref.{Bor}
use Rattle.truth.proofs.Tests.{either}
use Rattle.refusal.specs.Table.{accepted}
use Rattle.padded.specs.declared.Place.{Place}
use Rattle.padded.specs.Viewing.{view_number, in_message, view_place, view_part, view_address}
use Rattle.padded.proofs.Placed.{in_neither_lem, in_message_lem, in_buffer_lem}
use Rattle.padded.proofs.Viewed.{tail_room}

-- where a place lies inside what was lent
pub record Inside (s b : List ℕ) (p : Place) : Type 0 where
  pub of_message : p.which ≡ in_message → p.offset + p.length ≤ length s
  pub of_buffer : (p.which ≡ in_message → ⊥) → p.offset + p.length ≤ length b

module _ (s b : List ℕ) (i : ℕ) where
  placed : Dec (view_number s b i ≡ accepted) → Inside s b (view_place s b i)
  placed (no bad) = rw (← in_neither_lem s b i bad) (record { of_message = λ e. omega arith; of_buffer = λ e. omega arith })
  placed (yes ok) = there (dec_lt i (length s / 64))
    where
      there : Dec (i < length s / 64) → Inside s b (view_place s b i)
      there (yes h) = rw (← in_message_lem s b i ok h) (record { of_message = λ e. omega arith; of_buffer = λ e. absurd (e refl) })
      there (no h) =
          let past : length s / 64 ≤ i = omega arith in
          rw (← in_buffer_lem s b i ok past) (record { of_message = λ e. omega arith; of_buffer = λ e. tail_room s b i ok past })

  pub inside : Inside s b (view_place s b i)
  inside = placed (ℕ_discrete (view_number s b i) accepted)

-- the place p that the code was answered
module _ (s b : List ℕ) (i : ℕ) (p : Place) (e : p ≡ view_place s b i) where
  pub ends : Inside s b p
  ends = rw e (inside s b i)

  -- so the place's end is a number of the machine's
  pub end_within : (p.offset + p.length ≤ length s) ⊎ (p.offset + p.length ≤ length b)
  end_within = ⊎_elim (λ h. inl (ends.of_message (eqb-true _ _ h))) (λ h. inr (ends.of_buffer (eqb-false _ _ h))) (either (eqb p.which in_message))

  length_back : p.offset + p.length - p.offset ≡ p.length
  length_back = omega arith

  pub message_part : p.which ≡ in_message → take (p.offset + p.length - p.offset) (drop p.offset s) ≡ view_part s b i
  unfolding view_part
  message_part h = rw (length_back, ← e, eq-eqb p.which in_message h)

  pub buffer_part : (p.which ≡ in_message → ⊥) → take (p.offset + p.length - p.offset) (drop p.offset b) ≡ view_part s b i
  unfolding view_part
  buffer_part h = rw (length_back, ← e, ne_eqb p.which in_message h)

-- and its address
module _ (m b : Bor (List ℕ)) (i : ℕ) (p : Place) (e : p ≡ view_place m.now b.now i) where
  pub message_address : p.which ≡ in_message → (m.ref_ptr.0, p.offset + m.ref_ptr.1) ≡ view_address m b i
  unfolding view_address
  message_address h = rw (← e, eq-eqb p.which in_message h)

  pub buffer_address : (p.which ≡ in_message → ⊥) → (b.ref_ptr.0, p.offset + b.ref_ptr.1) ≡ view_address m b i
  unfolding view_address
  buffer_address h = rw (← e, ne_eqb p.which in_message h)
