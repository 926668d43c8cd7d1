-- What each conversion is where it has an exact value, and where it has none; when it has one; and the way back. Assumes nothing.
use Prim.Native.Nat.{◌*◌, ◌-◌, ◌/◌, ◌%◌, ◌^◌, ◌≤◌, ◌<◌}
use mathlib.Core.Path.{◌≡◌, sym, ap, ◌∙◌}
use native.Mathlib.Omega.{arith}
use borrow.Author.Tests.{lt-ltb, le-ltb, eq-eqb, ne_eqb}
use Rattle.std.specs.Prelude.{Option, Some, None}
use Rattle.units.specs.Units.{in_bits, in_bytes, in_frames, bits_of, bytes_of_bits, frames_of, bytes_of_frames}
use Rattle.units.specs.declared.Bits.{Bits}
use Rattle.units.specs.declared.Bytes.{Bytes}
use Rattle.units.specs.declared.Frames.{Frames}

pub bits_are : (n : Bytes) → n.0 ≤ 2 ^ 61 - 1 → bits_of n ≡ in_bits (n.0 * 8)
bits_are n h = simp (lt-ltb (n.0 * 8) (2 ^ 64) (omega arith))

pub no_bits : (n : Bytes) → 2 ^ 61 - 1 < n.0 → bits_of n ≡ None
no_bits n h = simp (le-ltb (n.0 * 8) (2 ^ 64) (omega arith))

pub bytes_are : (n : Bits) → n.0 % 8 ≡ 0 → bytes_of_bits n ≡ in_bytes (n.0 / 8)
bytes_are n h = simp (eq-eqb _ _ h)

pub no_bytes : (n : Bits) → (n.0 % 8 ≡ 0 → ⊥) → bytes_of_bits n ≡ None
no_bytes n h = simp (ne_eqb _ _ h)

pub frames_are : (n : Bytes) → n.0 % 2 ≡ 0 → frames_of n ≡ in_frames (n.0 / 2)
frames_are n h = simp (eq-eqb _ _ h)

pub no_frames : (n : Bytes) → (n.0 % 2 ≡ 0 → ⊥) → frames_of n ≡ None
no_frames n h = simp (ne_eqb _ _ h)

pub frames_in_bytes_are : (n : Frames) → n.0 ≤ 2 ^ 63 - 1 → bytes_of_frames n ≡ in_bytes (n.0 * 2)
frames_in_bytes_are n h = simp (lt-ltb (n.0 * 2) (2 ^ 64) (omega arith))

pub no_frames_in_bytes : (n : Frames) → 2 ^ 63 - 1 < n.0 → bytes_of_frames n ≡ None
no_frames_in_bytes n h = simp (le-ltb (n.0 * 2) (2 ^ 64) (omega arith))

-- a length has no exact value, or it has one
pub either : {A P : Type 0} {o : Option A} {a : A} → o ≡ Some a → o ≡ None → P
either h e = cc

module _ (n : Bytes) where
  pub few : (there : Bits) → bits_of n ≡ Some there → n.0 ≤ 2 ^ 61 - 1
  few there h = let no : 2 ^ 61 - 1 < n.0 → ⊥ = λ p. either h (no_bits n p) in omega arith

  pub many : bits_of n ≡ None → 2 ^ 61 - 1 < n.0
  many h = let no : n.0 ≤ 2 ^ 61 - 1 → ⊥ = λ p. either (bits_are n p) h in omega arith

  pub even : (there : Frames) → frames_of n ≡ Some there → n.0 % 2 ≡ 0
  even there h = let no : 0 < n.0 % 2 → ⊥ = λ p. either h (no_frames n (λ z. omega arith)) in omega arith

  pub bits_back : (there : Bits) → bits_of n ≡ Some there → bytes_of_bits there ≡ Some n
  bits_back there h =
      let is : in_bits (n.0 * 8) ≡ Some there = sym (bits_are n (few there h)) ∙ h in
      let same : record { 0 = n.0 * 8 } ≡ there = cc in
      let back : n.0 * 8 / 8 ≡ n.0 = omega arith in
      rw (← same) (bytes_are (record { 0 = n.0 * 8 }) (omega arith) ∙ ap in_bytes back)

  pub frames_back : (there : Frames) → n.0 < 2 ^ 64 → frames_of n ≡ Some there → bytes_of_frames there ≡ Some n
  frames_back there b h =
      let two = even there h in
      let is : in_frames (n.0 / 2) ≡ Some there = sym (frames_are n two) ∙ h in
      let same : record { 0 = n.0 / 2 } ≡ there = cc in
      let back : n.0 / 2 * 2 ≡ n.0 = omega arith in
      rw (← same) (frames_in_bytes_are (record { 0 = n.0 / 2 }) (omega arith) ∙ ap in_bytes back)

module _ (n : Bits) where
  pub whole : (there : Bytes) → bytes_of_bits n ≡ Some there → n.0 % 8 ≡ 0
  whole there h = let no : 0 < n.0 % 8 → ⊥ = λ p. either h (no_bytes n (λ z. omega arith)) in omega arith

  pub bytes_back : (there : Bytes) → n.0 < 2 ^ 64 → bytes_of_bits n ≡ Some there → bits_of there ≡ Some n
  bytes_back there b h =
      let eight = whole there h in
      let is : in_bytes (n.0 / 8) ≡ Some there = sym (bytes_are n eight) ∙ h in
      let same : record { 0 = n.0 / 8 } ≡ there = cc in
      let back : n.0 / 8 * 8 ≡ n.0 = omega arith in
      rw (← same) (bits_are (record { 0 = n.0 / 8 }) (omega arith) ∙ ap in_bits back)

module _ (n : Frames) where
  pub few_frames : (there : Bytes) → bytes_of_frames n ≡ Some there → n.0 ≤ 2 ^ 63 - 1
  few_frames there h = let no : 2 ^ 63 - 1 < n.0 → ⊥ = λ p. either h (no_frames_in_bytes n p) in omega arith

  pub many_frames : bytes_of_frames n ≡ None → 2 ^ 63 - 1 < n.0
  many_frames h = let no : n.0 ≤ 2 ^ 63 - 1 → ⊥ = λ p. either (frames_in_bytes_are n p) h in omega arith

  pub frames_bytes_back : (there : Bytes) → bytes_of_frames n ≡ Some there → frames_of there ≡ Some n
  frames_bytes_back there h =
      let is : in_bytes (n.0 * 2) ≡ Some there = sym (frames_in_bytes_are n (few_frames there h)) ∙ h in
      let same : record { 0 = n.0 * 2 } ≡ there = cc in
      let back : n.0 * 2 / 2 ≡ n.0 = omega arith in
      rw (← same) (frames_are (record { 0 = n.0 * 2 }) (omega arith) ∙ ap in_frames back)
