-- What the block view and the remover promise: document 01, "Padded blocks" and "Refusal numbers".
use Rattle.std.specs.Prelude.{ℕ, zero, suc, ◌+◌, ◌*◌, ◌-◌, ◌/◌, ◌<◌, ◌≤◌, ◌≡◌, ◌↔◌, List, [], ◌++◌, length, take, drop, Option, Some, None}
use Rattle.std.specs.Borrow.{Bor}
use Rattle.refusal.specs.Table.{accepted, too_long, wrong_size, other_tail, no_such_block, not_padded}
use Rattle.word.specs.BigEndian.{AreBytes}
use Rattle.units.specs.Units.{longest}
use Rattle.padding.specs.Padding.{padded, block_count}
use Rattle.padding.specs.Writing.{tail_of, tail_size, written, buffer_after}
use Rattle.padded.specs.Viewing.{view_number, view_part, view_place, view_address, place_of}
use Rattle.padded.specs.declared.Block.{Block}
use Rattle.padded.specs.declared.Block.TheVariants.{InMessage, InBuffer}
use Rattle.padded.specs.Removing.{remove_number, remove_length, remove_part}

-- the first n viewed blocks, joined
unfoldable pub viewed_blocks : ℕ → List ℕ → List ℕ → List ℕ
viewed_blocks zero message buffer = []
viewed_blocks (suc n) message buffer = viewed_blocks n message buffer ++ view_part message buffer n

-- a message, and a buffer that begins with what the padding writer puts there for it
pub record Tailed (message buffer : List ℕ) : Type 0 where
  pub short : length message ≤ longest
  pub roomy : tail_size (length message) ≤ length buffer
  pub tail : take (tail_size (length message)) buffer ≡ tail_of message

-- the bytes are the padded form of some message
pub record PaddedForm (bytes : List ℕ) : Type 0 where
  pub message : List ℕ
  pub short : length message ≤ longest
  pub form : padded message ≡ bytes

pub record Promises : Type 0 where
  -- block i of the padded message
  pub view :
      (message buffer : List ℕ) (i : ℕ) → view_number message buffer i ≡ accepted
      → view_part message buffer i ≡ take 64 (drop (64 * i) (padded message))
  -- a buffer that the padding writer wrote into has that tail
  pub written_tail : (message buffer : List ℕ) → (written message buffer).number ≡ accepted → Tailed message (buffer_after message buffer)
  -- the viewed blocks, joined, are the padded message
  pub views_joined :
      (message buffer : List ℕ) → Tailed message buffer
      → viewed_blocks (block_count (length message)) message buffer ≡ padded message
  -- 0, 10, 11, 13 and 12, each exactly when; the part of a refused view is empty
  pub view_accepted :
      (message buffer : List ℕ) (i : ℕ)
      → (view_number message buffer i ≡ accepted) ↔ (Tailed message buffer × (i < block_count (length message)))
  pub view_ten : (message buffer : List ℕ) (i : ℕ) → (view_number message buffer i ≡ too_long) ↔ (longest < length message)
  pub view_eleven :
      (message buffer : List ℕ) (i : ℕ)
      → (view_number message buffer i ≡ wrong_size) ↔ ((length message ≤ longest) × (length buffer < tail_size (length message)))
  pub view_thirteen :
      (message buffer : List ℕ) (i : ℕ) →
      (view_number message buffer i ≡ other_tail)
      ↔ ((length message ≤ longest)
      × (tail_size (length message) ≤ length buffer)
      × (take (tail_size (length message)) buffer ≡ tail_of message → ⊥))
  pub view_twelve :
      (message buffer : List ℕ) (i : ℕ)
      → (view_number message buffer i ≡ no_such_block) ↔ (Tailed message buffer × (block_count (length message) ≤ i))
  pub view_refused : (message buffer : List ℕ) (i : ℕ) → (view_number message buffer i ≡ accepted → ⊥) → view_part message buffer i ≡ []
  -- "part of the message where it lies wholly inside it" (which is 1), "else .. part of the tail buffer" (2), 64 bytes; of neither (0)
  -- where it is refused
  pub view_inside :
      (message buffer : List ℕ) (i : ℕ) → view_number message buffer i ≡ accepted → 64 * (i + 1) ≤ length message
      → view_place message buffer i ≡ record { which = 1; offset = 64 * i; length = 64 }
  pub view_outside :
      (message buffer : List ℕ) (i : ℕ) → view_number message buffer i ≡ accepted → length message < 64 * (i + 1)
      → (view_place message buffer i ≡ record { which = 2; offset = 64 * (i - length message / 64); length = 64 })
      × (64 * (i - length message / 64) + 64 ≤ length buffer)
  pub view_nowhere :
      (message buffer : List ℕ) (i : ℕ) → (view_number message buffer i ≡ accepted → ⊥)
      → view_place message buffer i ≡ record { which = 0; offset = 0; length = 0 }
  -- a C host is told all of it
  pub place_none : place_of None ≡ record { which = 0; offset = 0; length = 0 }
  pub place_some :
      (from : ℕ)
      → (place_of (Some (InMessage from)) ≡ record { which = 1; offset = from; length = 64 })
      × (place_of (Some (InBuffer from)) ≡ record { which = 2; offset = from; length = 64 })
  pub place_told : (x y : Option Block) → place_of x ≡ place_of y → x ≡ y
  -- and its address is that of the place in what was lent: the message's, or else the buffer's
  pub address_inside :
      (message buffer : Bor (List ℕ)) (i : ℕ) → (view_place message.now buffer.now i).which ≡ 1
      → view_address message buffer i ≡ (message.ref_ptr.0, (view_place message.now buffer.now i).offset + message.ref_ptr.1)
  pub address_outside :
      (message buffer : Bor (List ℕ)) (i : ℕ) → ((view_place message.now buffer.now i).which ≡ 1 → ⊥)
      → view_address message buffer i ≡ (buffer.ref_ptr.0, (view_place message.now buffer.now i).offset + buffer.ref_ptr.1)
  -- bytes are accepted by the remover exactly when they are the padded form of some message of at most 2^61 - 1 bytes, else 14
  pub remover : (bytes : List ℕ) → AreBytes bytes → (remove_number bytes ≡ accepted) ↔ PaddedForm bytes
  pub remover_fourteen : (bytes : List ℕ) → AreBytes bytes → (remove_number bytes ≡ not_padded) ↔ (PaddedForm bytes → ⊥)
  -- and the answer is that message; it is empty where the call is refused
  pub removed : (bytes : List ℕ) (is : PaddedForm bytes) → remove_part bytes ≡ is.message
  -- it is the first so many bytes
  pub remove_first : (bytes : List ℕ) → remove_part bytes ≡ take (remove_length bytes) bytes
  -- so many bytes are there
  pub remove_within : (bytes : List ℕ) → remove_length bytes ≤ length bytes
  pub remover_refused : (bytes : List ℕ) → (remove_number bytes ≡ accepted → ⊥) → remove_part bytes ≡ []
