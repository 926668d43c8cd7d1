-- What the padding and its writer promise: document 01, "SM3, condensed", "Padded blocks" and "Refusal numbers".
use Rattle.std.specs.Prelude.{ℕ, ◌+◌, ◌*◌, ◌/◌, ◌%◌, ◌<◌, ◌≤◌, ◌≡◌, ◌↔◌, List, ◌∷◌, ◌++◌, length, take, drop, replicate}
use Rattle.refusal.specs.Table.{accepted, too_long, wrong_size}
use Rattle.units.specs.Units.{longest}
use Rattle.word.specs.BigEndian.{big_endian}
use Rattle.padding.specs.Padding.{zeros, padding, padded, block_count}
use Rattle.padding.specs.Writing.{tail_of, tail_size, tail_answer, tail_after, written, buffer_after}

pub record Promises : Type 0 where
  -- "the fewest zero bytes that make the length 56 modulo 64"
  pub zeros_make_56 : (m : ℕ) → (m + 1 + zeros m) % 64 ≡ 56
  pub zeros_are_fewest : (m z : ℕ) → (m + 1 + z) % 64 ≡ 56 → zeros m ≤ z
  -- document 003, 5.2: the bit 1, then k zeros, "the smallest non-negative integer" with l + 1 + k = 448 modulo 512
  pub zeros_in_bits : (m : ℕ) → (8 * m + 1 + (8 * zeros m + 7)) % 512 ≡ 448
  pub fewest_bits : (m k : ℕ) → (8 * m + 1 + k) % 512 ≡ 448 → 8 * zeros m + 7 ≤ k
  -- "one byte 80 hex, then the fewest zero bytes .., then 8·m as eight bytes", behind the message
  pub spelled : (m : ℕ) → padding m ≡ 0x80 ∷ (replicate (zeros m) 0 ++ big_endian 8 (8 * m))
  pub behind : (message : List ℕ) → padded message ≡ message ++ padding (length message)
  -- "A padded message has floor((m+8)/64) + 1 blocks"
  pub block_count_lem : (m : ℕ) → block_count m ≡ (m + 8) / 64 + 1
  pub blocks : (message : List ℕ) → length (padded message) ≡ 64 * block_count (length message)
  -- "the first 64 or 128 bytes of the buffer"
  pub size : (message : List ℕ) → length (tail_of message) ≡ tail_size (length message)
  pub one_block : (m : ℕ) → m % 64 < 56 → tail_size m ≡ 64
  pub two_blocks : (m : ℕ) → 56 ≤ m % 64 → tail_size m ≡ 128
  -- the message's whole blocks followed by the writer's bytes are the padded message
  pub writer :
      (message buffer : List ℕ) →
      (written message buffer).number ≡ accepted →
      take (length message / 64 * 64) message ++ take (written message buffer).count (buffer_after message buffer) ≡ padded message
  -- "Later bytes keep their content"
  pub later_kept :
      (message buffer : List ℕ)
      → drop (tail_size (length message)) (buffer_after message buffer) ≡ drop (tail_size (length message)) buffer
  -- 10, 11 and 0, each exactly when
  pub ten : (message buffer : List ℕ) → (written message buffer ≡ record { number = too_long; count = 0 }) ↔ (longest < length message)
  pub eleven :
      (message buffer : List ℕ) →
      (written message buffer ≡ record { number = wrong_size; count = 0 })
      ↔ ((length message ≤ longest) × (length buffer < tail_size (length message)))
  pub zero :
      (message buffer : List ℕ) →
      (written message buffer ≡ record { number = accepted; count = tail_size (length message) })
      ↔ ((length message ≤ longest) × (tail_size (length message) ≤ length buffer))
  -- "buffers same" where the call is refused
  pub refused_leaves : (message buffer : List ℕ) → ((written message buffer).number ≡ accepted → ⊥) → buffer_after message buffer ≡ buffer
  -- the padding alone, for m bytes of which the last m mod 64 stand at the front of the buffer: the same answers, and the same rest of
  -- the buffer
  pub pad_answers : (message buffer : List ℕ) → tail_answer (length message) (length buffer) ≡ written message buffer
  pub pads :
      (m : ℕ) (buffer : List ℕ) → m ≤ longest → tail_size m ≤ length buffer
      → tail_after m buffer ≡ take (m % 64) buffer ++ (padding m ++ drop (tail_size m) buffer)
  pub pad_refused : (m : ℕ) (buffer : List ℕ) → ((tail_answer m (length buffer)).number ≡ accepted → ⊥) → tail_after m buffer ≡ buffer
