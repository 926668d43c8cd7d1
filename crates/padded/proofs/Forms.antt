-- The remover accepts the padded forms of messages, and gives the message. Assumes nothing.
use Prim.Native.Nat.{ℕ, ◌+◌, ◌*◌, ◌-◌, ◌/◌, ◌%◌, ◌^◌, ◌<◌, ◌≤◌}
use mathlib.Core.Path.{◌≡◌, refl, sym, ap, ◌∙◌}
use mathlib.Core.Bool.{true, ◌&&◌}
use mathlib.Core.List.{List, [], ◌∷◌, ◌++◌, append_assoc}
use native.Mathlib.Nat.{mod-eq_of_lt, mod-lt}
use native.Mathlib.Omega.{arith}
use borrow.Author.Tests.{eq-eqb}
use lib.Dec.{eqb}
use lib.ListN.{length, take, drop, replicate, length-append, length-drop, length-replicate}
use lib.Seq.{take_at, drop_at, get_or_at, length-take-le}
use Rattle.buffers.specs.Same.{same}
use Rattle.truth.proofs.Tests.{both}
use Rattle.buffers.proofs.Comparing.{same_equal, same_self}
use Rattle.word.specs.BigEndian.{big_endian, number_of, AreBytes}
use Rattle.word.proofs.BigEndian.{number_bytes, bytes_number, length_bigEndian}
use Rattle.units.specs.Units.{longest}
use Rattle.padding.specs.Padding.{zeros, padding, padded, block_count}
use Rattle.padding.proofs.Tails.{fills, fills_blocks}
use Rattle.padding.proofs.Wholes.{padded_length}
use Rattle.padded.specs.Removing.{stated_bits, right_fill, is_padded}
use Rattle.padded.proofs.Parts.{by_parts, part_bytes, stated_is}
use Rattle.padded.proofs.Removed.{known, is_padded_lem, room}

-- the bytes of a padded message: one more than the message, the zeros and eight
counted : (m : ℕ) → m + (1 + (zeros m + 8)) ≡ 64 * block_count m
counted m = omega (arith, fills m, fills_blocks m)

-- A padded form is accepted.
module _ (s : List ℕ) (w : length s ≤ longest) where
  -- its last eight bytes state its bits
  stated : stated_bits (padded s) ≡ 8 * length s
  unfolding stated_bits padded padding
  stated =
      let z = replicate {A = ℕ} (zeros (length s)) 0 in
      let bits = big_endian 8 (8 * length s) in
      let front = s ++ (0x80 ∷ z) in
      let whole : s ++ (0x80 ∷ (z ++ bits)) ≡ front ++ bits = sym (append_assoc s (0x80 ∷ z) bits) in
      let eight : length bits ≡ 8 = length_bigEndian 8 (8 * length s) in
      let at : length front ≡ length (front ++ bits) - 8 = omega (arith, length-append front bits) in
      rw (whole, drop_at front bits (length (front ++ bits) - 8) at) (number_bytes 8 (8 * length s) ∙ mod-eq_of_lt (omega arith))

  filled : right_fill (length s) (padded s) ≡ true
  unfolding right_fill padded padding
  filled =
      let z = replicate {A = ℕ} (zeros (length s)) 0 in
      let bits = big_endian 8 (8 * length s) in
      let eight : length bits ≡ 8 = length_bigEndian 8 (8 * length s) in
      let front = s ++ (0x80 ∷ []) in
      let whole : s ++ (0x80 ∷ (z ++ bits)) ≡ front ++ (z ++ bits) = sym (append_assoc s (0x80 ∷ []) (z ++ bits)) in
      let far : length front ≡ length s + 1 = length-append s (0x80 ∷ []) in
      let between : length (s ++ (0x80 ∷ (z ++ bits))) - 8 - (length s + 1) ≡ zeros (length s)
      = omega (arith, length-append s (0x80 ∷ (z ++ bits)), length-append z bits, length-replicate {A = ℕ} (zeros (length s)) 0) in
      both _ _ (eq-eqb _ _ (get_or_at s 0x80 (z ++ bits) 0 (length s) refl))
      (rw (between, whole, drop_at front (z ++ bits) (length s + 1) far, take_at z bits (zeros (length s)) (length-replicate {A = ℕ} (zeros (length s)) 0)) (same_self z))

  pub form_padded : is_padded (padded s) ≡ true
  form_padded =
      let m : stated_bits (padded s) / 8 ≡ length s = omega (arith, stated) in
      let long = padded_length s in
      is_padded_lem (padded s) (omega (arith, counted (length s))) (omega (arith, stated)) (rw m (sym long)) (rw m filled)

  pub form_message : take (stated_bits (padded s) / 8) (padded s) ≡ s
  unfolding padded
  form_message =
      let m : stated_bits (padded s) / 8 ≡ length s = omega (arith, stated) in
      ap (λ k. take k (padded s)) m ∙ take_at s (padding (length s)) (length s) refl

-- bytes are a number that has no more digits than they are many
number_small : (bs : List ℕ) → AreBytes bs → length bs ≡ 8 → number_of bs < 2 ^ 64
number_small bs all eight =
    let is : number_of bs ≡ number_of bs % 2 ^ 64
    = ap number_of (sym (bytes_number bs all)) ∙ rw eight (number_bytes 8 (number_of bs)) in
    rw is (mod-lt (number_of bs) (omega arith))

-- What is accepted is a padded form.
module _ (b : List ℕ) (all : AreBytes b) (ok : is_padded b ≡ true) where
  stated_small : stated_bits b < 2 ^ 64
  stated_small =
      let is = room b ok in
      let from = length b - 8 in
      rw (← (stated_is b)) (number_small (take (length b - from) (drop from b)) (part_bytes b (length b - from) from all)
      (length-take-le (length b - from) (drop from b) (omega (arith, length-drop from b)) ∙ eight))
    where
      eight : length b - (length b - 8) ≡ 8
      eight = let is = room b ok in omega arith

  -- the message
  abbrev m : List ℕ
  m = take (stated_bits b / 8) b

  m_length : length m ≡ stated_bits b / 8
  m_length = length-take-le (stated_bits b / 8) b (room b ok).1

  pub message_short : length m ≤ longest
  message_short = omega (arith, m_length, stated_small)

  pub message_form : padded m ≡ b
  unfolding padded padding
  message_form =
      let is = known b ok in
      let bits : stated_bits b ≡ 8 * length m = omega (arith, m_length, is.bytes) in
      let long : length b ≡ length m + (1 + (zeros (length m) + 8)) = rw m_length (sym is.count ∙ sym (counted (stated_bits b / 8))) in
      sym
      (same_equal b (padded m)
      (by_parts m b (zeros (length m)) (8 * length m) all long (omega (arith, stated_small))
      ∙ both (same (take (length m) b) m && right_fill (length m) b) (eqb (stated_bits b) (8 * length m))
      (both (same (take (length m) b) m) (right_fill (length m) b) front_same (rw m_length is.fill))
      (eq-eqb (stated_bits b) (8 * length m) bits)))
    where
      front_same : same (take (length m) b) m ≡ true
      front_same = rw m_length (same_self m)
