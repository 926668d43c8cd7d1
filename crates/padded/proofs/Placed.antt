-- Where a viewed block lies, by the tests that lead there. Assumes nothing.
use Prim.Native.Nat.{ℕ, ◌+◌, ◌*◌, ◌-◌, ◌/◌, ◌<◌, ◌≤◌}
use mathlib.Core.Path.{◌≡◌, refl, sym, ap, ◌∙◌}
use mathlib.Core.List.{List, []}
use native.Mathlib.Omega.{arith}
use borrow.Author.Tests.{eq-eqb, ne_eqb, lt-ltb, le-ltb}
use lib.ListN.{length, take, drop}
use denote.Ref.{Bor}
use Rattle.refusal.specs.Table.{accepted, number_of}
use Rattle.refusal.specs.declared.Refusal.{Refusal}
use Rattle.refusal.proofs.Telling.{not_accepted}
use Rattle.std.specs.Prelude.{Option, Some, None, Result, Ok, Err, ⊤}
use Rattle.std.specs.Result.{result_ok}
use Rattle.padded.specs.declared.Block.{Block}
use Rattle.padded.specs.declared.Block.TheVariants.{InMessage, InBuffer}
use Rattle.padded.specs.Viewing.{view_number, in_neither, in_message, in_buffer, view_place, view_part, view_address, place_of}

-- where it lies, and so its bytes
module _ (s b : List ℕ) (i : ℕ) where
  -- whether it can be viewed, as the first call answered
  module _ (answer : Result ⊤ Refusal) (is : number_of answer ≡ view_number s b i) where
    pub seen : (u : ⊤) → Some u ≡ result_ok answer → view_number s b i ≡ accepted
    seen u h = by answer is h
      where
        by : (r : Result ⊤ Refusal) → number_of r ≡ view_number s b i → Some u ≡ result_ok r → view_number s b i ≡ accepted
        by (Ok _) e h = sym e
        by (Err why) e h = cc

    pub unseen : None ≡ result_ok answer → view_number s b i ≡ accepted → ⊥
    unseen h z = by answer is h
      where
        by : (r : Result ⊤ Refusal) → number_of r ≡ view_number s b i → None ≡ result_ok r → ⊥
        by (Ok _) e h = cc
        by (Err why) e h = not_accepted why (e ∙ z)

  pub in_neither_lem : (view_number s b i ≡ accepted → ⊥) → record { which = in_neither; offset = 0; length = 0 } ≡ view_place s b i
  unfolding view_place
  in_neither_lem h = simp (ne_eqb (view_number s b i) accepted h)

  pub no_part : (view_number s b i ≡ accepted → ⊥) → view_part s b i ≡ []
  unfolding view_part
  no_part h = rw (← (in_neither_lem h))

  module _ (ok : view_number s b i ≡ accepted) where
    pub in_message_lem : i < length s / 64 → record { which = in_message; offset = 64 * i; length = 64 } ≡ view_place s b i
    unfolding view_place
    in_message_lem h = rw (eq-eqb (view_number s b i) accepted ok, lt-ltb i (length s / 64) h)

    pub in_buffer_lem : length s / 64 ≤ i → record { which = in_buffer; offset = 64 * (i - length s / 64); length = 64 } ≡ view_place s b i
    unfolding view_place
    in_buffer_lem h = rw (eq-eqb (view_number s b i) accepted ok, le-ltb i (length s / 64) h)

    pub part_in_message : i < length s / 64 → view_part s b i ≡ take 64 (drop (64 * i) s)
    unfolding view_part
    part_in_message h = rw (← (in_message_lem h))

    pub part_in_buffer : length s / 64 ≤ i → view_part s b i ≡ take 64 (drop (64 * (i - length s / 64)) b)
    unfolding view_part
    part_in_buffer h = rw (← (in_buffer_lem h))

    -- in the paper's words
    pub inside : 64 * (i + 1) ≤ length s → view_place s b i ≡ record { which = 1; offset = 64 * i; length = 64 }
    inside h = sym (in_message_lem (omega arith))

    pub outside : length s < 64 * (i + 1) → view_place s b i ≡ record { which = 2; offset = 64 * (i - length s / 64); length = 64 }
    outside h = sym (in_buffer_lem (omega arith))

-- its address, by which of the two it is part of
module _ (s b : Bor (List ℕ)) (i : ℕ) where
  pub address_inside : (view_place s.now b.now i).which ≡ 1 → view_address s b i ≡ (s.ref_ptr.0, (view_place s.now b.now i).offset + s.ref_ptr.1)
  unfolding view_address
  address_inside h = rw (eq-eqb (view_place s.now b.now i).which in_message h)

  pub address_outside : ((view_place s.now b.now i).which ≡ 1 → ⊥) → view_address s b i ≡ (b.ref_ptr.0, (view_place s.now b.now i).offset + b.ref_ptr.1)
  unfolding view_address
  address_outside h = rw (ne_eqb (view_place s.now b.now i).which in_message h)

-- what a C host is told of it is all of it
pub place_told : (x y : Option Block) → place_of x ≡ place_of y → x ≡ y
place_told None None h = refl
place_told (Some (InMessage a)) (Some (InMessage b)) h = ap (λ (n : ℕ). Some (InMessage n)) (ap (λ p. p.offset) h)
place_told (Some (InBuffer a)) (Some (InBuffer b)) h = ap (λ (n : ℕ). Some (InBuffer n)) (ap (λ p. p.offset) h)
place_told None (Some (InMessage b)) h = cc (ap (λ p. p.which) h)
place_told None (Some (InBuffer b)) h = cc (ap (λ p. p.which) h)
place_told (Some (InMessage a)) None h = cc (ap (λ p. p.which) h)
place_told (Some (InMessage a)) (Some (InBuffer b)) h = cc (ap (λ p. p.which) h)
place_told (Some (InBuffer a)) None h = cc (ap (λ p. p.which) h)
place_told (Some (InBuffer a)) (Some (InMessage b)) h = cc (ap (λ p. p.which) h)
