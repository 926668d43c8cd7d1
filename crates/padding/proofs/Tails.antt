-- When the tail fits into one block, and what a call that writes a tail answers and leaves. Assumes nothing.
use Prim.Native.Nat.{ℕ, ◌+◌, ◌*◌, ◌-◌, ◌/◌, ◌%◌, ◌<◌, ◌≤◌}
use mathlib.Core.Path.{◌≡◌, refl, sym, ap, ◌∙◌}
use mathlib.Core.Logic.{◌⊎◌, inl, inr, ⊎_elim}
use mathlib.Core.List.{List, ◌∷◌, ◌++◌}
use native.Mathlib.Decide.{dec_lt}
use native.Mathlib.Nat.{mul_comm}
use native.Mathlib.Omega.{arith}
use borrow.Author.Tests.{lt-ltb, le-ltb, eq-eqb, ne_eqb, eqb-false}
use lib.ListN.{length, take, drop, replicate, length-append, length-replicate}
use Rattle.refusal.specs.Table.{accepted, too_long, wrong_size}
use Rattle.units.specs.Units.{longest}
use Rattle.padding.specs.Padding.{zeros, padding, block_count}
use Rattle.word.specs.BigEndian.{big_endian}
use Rattle.word.proofs.BigEndian.{length_bigEndian}
use Rattle.std.specs.Prelude.{Some}
use Rattle.units.specs.declared.Bits.{Bits}
use Rattle.units.specs.Units.{bits_of}
use Rattle.units.proofs.Exact.{bits_are, few}
use Rattle.refusal.specs.declared.Written.{Written}
use Rattle.refusal.specs.Table.{refused_by, wrote}
use Rattle.padding.specs.Writing.{tail_size, tail_answer, tail_after}

pub one_block : (m : ℕ) → m % 64 < 56 → tail_size m ≡ 64
unfolding tail_size
one_block m h = simp (lt-ltb (m % 64) 56 h)

pub two_blocks : (m : ℕ) → 56 ≤ m % 64 → tail_size m ≡ 128
unfolding tail_size
two_blocks m h = simp (le-ltb (m % 64) 56 h)

-- one or the other
pub one_or_two : (m : ℕ) → ((m % 64 < 56) × (tail_size m ≡ 64)) ⊎ ((56 ≤ m % 64) × (tail_size m ≡ 128))
one_or_two m = by (dec_lt (m % 64) 56)
  where
    by : Dec (m % 64 < 56) → ((m % 64 < 56) × (tail_size m ≡ 64)) ⊎ ((56 ≤ m % 64) × (tail_size m ≡ 128))
    by (yes h) = inl (h, one_block m h)
    by (no h) = let more : 56 ≤ m % 64 = omega arith in inr (more, two_blocks m more)

-- the m mod 64 bytes, the byte 80, the zeros and the eight bytes of the length fill the tail
pub fills : (m : ℕ) → m % 64 + 1 + zeros m + 8 ≡ tail_size m
unfolding zeros
fills m = ⊎_elim (λ one. omega arith) (λ two. omega arith) (one_or_two m)

-- the message's whole blocks and the tail's are the padded message's
pub fills_blocks : (m : ℕ) → 64 * (m / 64) + tail_size m ≡ 64 * block_count m
unfolding block_count
fills_blocks m = ⊎_elim (λ one. omega arith) (λ two. omega arith) (one_or_two m)

pub at_most_128 : (m : ℕ) → tail_size m ≤ 128
at_most_128 m = ⊎_elim (λ one. omega arith) (λ two. omega arith) (one_or_two m)

module _ (m room : ℕ) where
  pub refused_long : longest < m → tail_answer m room ≡ refused_by too_long
  unfolding tail_answer
  refused_long h = simp (lt-ltb longest m h)

  pub refused_size : m ≤ longest → room < tail_size m → tail_answer m room ≡ refused_by wrong_size
  unfolding tail_answer
  refused_size h s = simp (le-ltb longest m h, lt-ltb room (tail_size m) s)

  pub accepts : m ≤ longest → tail_size m ≤ room → tail_answer m room ≡ wrote (tail_size m)
  unfolding tail_answer
  accepts h s = simp (le-ltb longest m h, le-ltb room (tail_size m) s)

  -- one of the three
  pub cases : {P : Type 0} → (longest < m → P) → (m ≤ longest → room < tail_size m → P) → (m ≤ longest → tail_size m ≤ room → P) → P
  cases {P} long small fits = by_length (dec_lt longest m)
    where
      by_room : m ≤ longest → Dec (room < tail_size m) → P
      by_room w (yes s) = small w s
      by_room w (no s) = fits w (omega arith)

      by_length : Dec (longest < m) → P
      by_length (yes l) = long l
      by_length (no l) = by_room (omega arith) (dec_lt room (tail_size m))

  -- what is known of an answer that accepts
  pub record Accepted (answer : Written) : Type 0 where
    pub within : m ≤ longest
    pub size : answer.count ≡ tail_size m
    pub roomy : tail_size m ≤ room

  pub accepted_when : (answer : Written) → answer ≡ tail_answer m room → answer.number ≡ accepted → Accepted answer
  accepted_when answer e h =
      cases
      (λ l. absurd (eqb-false 0 10 refl (sym h ∙ ap (λ r. r.number) (e ∙ refused_long l))))
      (λ w s. absurd (eqb-false 0 11 refl (sym h ∙ ap (λ r. r.number) (e ∙ refused_size w s))))
      (λ w r. record { within = w; size = ap (λ a. a.count) (e ∙ accepts w r); roomy = r })

-- the padding's bytes, and with the m mod 64 bytes before them
pub length_padding : (m : ℕ) → length (padding m) ≡ 1 + zeros m + 8
unfolding padding
length_padding m = simp (length-append, length-replicate, length_bigEndian) (omega arith)

pub fills_tail : (m : ℕ) → m % 64 + length (padding m) ≡ tail_size m
fills_tail m = omega (arith, length_padding m, fills m)

-- where the padding starts, its zeros end and its length ends
module _ (m room : ℕ) (answer : Written) (is : answer ≡ tail_answer m room) (ok : answer.number ≡ accepted) where
  pub starts : m % 64 < answer.count - 8
  starts = let known = accepted_when m room answer is ok in omega (arith, fills m)

  pub ends : answer.count - 8 + 8 ≤ room
  ends = let known = accepted_when m room answer is ok in omega (arith, fills m)

  pub big : 8 ≤ answer.count
  big = let known = starts in omega arith

-- the number of bits is what the unit's conversion gave
pub length_bits : (m : ℕ) (bits : Bits) → bits_of (record { 0 = m }) ≡ Some bits → bits.0 ≡ 8 * m
length_bits m bits e =
    let is = sym e ∙ bits_are (record { 0 = m }) (few (record { 0 = m }) bits e) in
    let same : bits ≡ record { 0 = m * 8 } = cc in
    ap (λ b. b.0) same ∙ mul_comm m 8

module _ (m : ℕ) (buffer : List ℕ) (answer : Written) (is : answer ≡ tail_answer m (length buffer)) where
  -- refused: nothing is written
  pub left_alone : (answer.number ≡ accepted → ⊥) → buffer ≡ tail_after m buffer
  unfolding tail_after
  left_alone h = simp (ne_eqb (tail_answer m (length buffer)).number accepted (λ z. h (ap (λ r. r.number) is ∙ z)))

  module _ (ok : answer.number ≡ accepted) where
    pub after : tail_after m buffer ≡ take (m % 64) buffer ++ (padding m ++ drop (tail_size m) buffer)
    unfolding tail_after
    after = simp (eq-eqb (tail_answer m (length buffer)).number accepted (ap (λ r. r.number) (sym is) ∙ ok))

    -- accepted: what is written is the padding
    pub padded_behind : (bits : Bits) → bits_of (record { 0 = m }) ≡ Some bits
        → take (m % 64) buffer ++ ((0x80 ∷ (replicate (answer.count - 8 - (m % 64 + 1)) 0 ++ big_endian 8 bits.0)) ++ drop (answer.count - 8 + 8) buffer)
        ≡ tail_after m buffer
    unfolding padding
    padded_behind bits e =
        let known = accepted_when m (length buffer) answer is ok in
        let z : answer.count - 8 - (m % 64 + 1) ≡ zeros m = omega (arith, fills m) in
        let end : answer.count - 8 + 8 ≡ tail_size m = omega (arith, fills m) in
        rw (z, end, length_bits m bits e) (sym after)

-- a caller's buffer that is long enough, and a message that is not too long
pub pads : (m : ℕ) (buffer : List ℕ) → m ≤ longest → tail_size m ≤ length buffer
    → tail_after m buffer ≡ take (m % 64) buffer ++ (padding m ++ drop (tail_size m) buffer)
pads m buffer w r = after m buffer (tail_answer m (length buffer)) refl (ap (λ a. a.number) (accepts m (length buffer) w r))
