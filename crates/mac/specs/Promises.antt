-- What is promised of HMAC and of the code state, over the definitions that the functions' contracts cite. Quotations are those of 4/13,
-- where no other paper is named.
use Rattle.std.specs.Prelude.{◌≡◌, ◌↔◌, ℕ, ◌+◌, ◌-◌, ◌≤◌, ◌<◌, true, false, List, [], ◌∷◌, ◌++◌, length, get_or, replicate}
use Rattle.std.specs.Prelude.{Result, Ok, Err}
use Rattle.std.specs.Int.Bits.{bit_xor}
use Rattle.refusal.specs.Table.{accepted, too_long, number_by}
use Rattle.refusal.specs.declared.Refusal.{Refusal}
use Rattle.units.specs.Units.{longest}
use Rattle.standard.specs.Standard.{IV, folded}
use Rattle.hash.specs.Sm3.{sm3}
use Rattle.hash.specs.Cutting.{joined}
use Rattle.hash.specs.State.{in_order as hash_in_order}
use Rattle.hash.specs.Update.{update as hash_update}
use Rattle.hash.specs.Digests.{finish as hash_finish}
use Rattle.hash.specs.declared.Hash.{Hash}
use Rattle.hash.specs.declared.Digest.{Digest}
use Rattle.hash.specs.declared.Compared.{Compared}
use Rattle.mac.specs.Hmac.{◌⊕◌, key_block, hmac}
use Rattle.mac.specs.Codes.{started as started_state, start, in_order, update, finish, code_of, compare_state, compare_message}
use Rattle.mac.specs.Cutting.{after_all_of, numbers_of}
use Rattle.mac.specs.Told.{code_updated_of}
use Rattle.mac.specs.declared.Code.{Code}
use Rattle.mac.specs.declared.CodeUpdated.{CodeUpdated}

-- RFC 2104: the key with zeros behind it to 64 bytes; "a key over 64 bytes is hashed first", and has 32 zeros behind it
pub record KeyBlock (key : List ℕ) : Type 0 where
  pub short : length key ≤ 64 → key_block key ≡ key ++ replicate (64 - length key) 0
  pub long : 64 < length key → key_block key ≡ sm3 key ++ replicate 32 0
  pub size : length (key_block key) ≡ 64

-- XOR of 64 bytes with the same byte 64 times: each with it
pub record Xored (block : List ℕ) (pad : ℕ) : Type 0 where
  pub size : length (block ⊕ replicate 64 pad) ≡ 64
  pub bytes : (i : ℕ) → i < 64 → get_or (block ⊕ replicate 64 pad) i 0 ≡ bit_xor (get_or block i 0) pad

-- H(K XOR opad, H(K XOR ipad, text)), with "32-byte results"
pub record IsHmac (key message code : List ℕ) : Type 0 where
  pub formula : code ≡ sm3 ((key_block key ⊕ replicate 64 0x5c) ++ sm3 ((key_block key ⊕ replicate 64 0x36) ++ message))
  pub size : length code ≡ 32

-- What each call answers, row by row, with what is returned and left: "Order 9, 10, 11". Each row says when its answer is given, and of
-- any arguments just one row holds.

-- a hash state that has taken one block
abbrev pub after_block : (block : List ℕ) → Hash
after_block block = record { words = folded IV block; total = 64; tail = replicate 64 0 }

-- a key's state: the inner has taken K XOR ipad, the outer K XOR opad
abbrev pub key_state : (key : List ℕ) → Code
key_state key =
    record { inner = after_block (key_block key ⊕ replicate 64 0x36); outer = after_block (key_block key ⊕ replicate 64 0x5c) }

-- "keys of every length"; "An empty key is a key; a refused key gives the empty key's state"
pub data StartRow (key : List ℕ) : (answer : CodeUpdated) → Type 0 where
  long_key : longest < length key → StartRow key (record { number = 10; state = key_state [] })
  started : length key ≤ longest → StartRow key (record { number = 0; state = key_state key })

-- a state in order: none of "a hash state isn't in order, the inner has under 64 bytes or the outer other than 64"
abbrev pub Ordered : Code → Type 0
Ordered c = (hash_in_order c.inner ≡ true) × (hash_in_order c.outer ≡ true) × (64 ≤ c.inner.total) × (c.outer.total ≡ 64)

-- the inner's total has "its inner 64-byte block counted"
pub data UpdateRow (c : Code) (piece : List ℕ) : (answer : CodeUpdated) → Type 0 where
  not_in_order : (Ordered c → ⊥) → UpdateRow c piece (record { number = 9; state = c })
  too_long_row : Ordered c → longest < c.inner.total + length piece → UpdateRow c piece (record { number = 10; state = c })
  taken :
      Ordered c
      → c.inner.total + length piece ≤ longest
      → UpdateRow c piece (record { number = 0; state = record { inner = (hash_update c.inner piece).state; outer = c.outer } })

pub data FinishRow (c : Code) : (answer : Digest) → Type 0 where
  not_in_order : (Ordered c → ⊥) → FinishRow c (record { number = 9; bytes = replicate 32 0 })
  finished :
      Ordered c
      → FinishRow c (record { number = 0; bytes = (hash_finish (hash_update c.outer (hash_finish c.inner).bytes).state).bytes })

-- "10 for a key above 2^61 - 1 bytes, or a message that passes it with its inner 64-byte block counted"
pub data CodeRow (key message : List ℕ) : (answer : Digest) → Type 0 where
  long_key : longest < length key → CodeRow key message (record { number = 10; bytes = replicate 32 0 })
  long_message :
      length key ≤ longest
      → longest < 64 + length message
      → CodeRow key message (record { number = 10; bytes = replicate 32 0 })
  coded :
      length key ≤ longest
      → 64 + length message ≤ longest
      → CodeRow key message (record { number = 0; bytes = hmac key message })

-- an answer held against expected bytes: its own refusal first, then "11 for a code not of 32 bytes"
pub data HeldRow (d : Digest) (expected : List ℕ) : (answer : Compared) → Type 0 where
  refused : (d.number ≡ 0 → ⊥) → HeldRow d expected (record { number = d.number; same = false })
  wrong_size : d.number ≡ 0 → (length expected ≡ 32 → ⊥) → HeldRow d expected (record { number = 11; same = false })
  differs : d.number ≡ 0 → length expected ≡ 32 → (expected ≡ d.bytes → ⊥) → HeldRow d expected (record { number = 0; same = false })
  equals : d.number ≡ 0 → length expected ≡ 32 → expected ≡ d.bytes → HeldRow d expected (record { number = 0; same = true })

-- in order: none of "a hash state isn't in order, the inner has under 64 bytes or the outer other than 64"
abbrev pub InOrder : Type 0
InOrder = (c : Code) → (in_order c ≡ true) ↔ Ordered c

-- "fed by pieces", however it is cut, of any start, update and finish: for every key of at most 2^61 - 1 bytes and every list of pieces
-- whose joined length is at most 2^61 - 65, each update answers 0, and finish answers the code of the joined bytes
abbrev pub AnyCuttingOf :
    (starting : List ℕ → CodeUpdated) (updating : Code → List ℕ → CodeUpdated) (finishing : Code → Digest)
    → Type 0
AnyCuttingOf starting updating finishing =
    (key : List ℕ) (pieces : List (List ℕ)) → length key ≤ longest → 64 + length (joined pieces) ≤ longest
    → (numbers_of updating (starting key).state pieces ≡ replicate (length pieces) accepted)
    × (finishing (after_all_of updating (starting key).state pieces) ≡ record { number = accepted; bytes = hmac key (joined pieces) })

-- "or a message that passes it with its inner 64-byte block counted": the piece past the limit is refused (10), with the state as it was
abbrev pub PastLongest : Type 0
PastLongest =
    (key : List ℕ) (pieces : List (List ℕ)) (piece : List ℕ) → length key ≤ longest → 64 + length (joined pieces) ≤ longest
    → longest < 64 + length (joined pieces) + length piece
    → update (after_all_of update (start key).state pieces) piece
    ≡ record { number = too_long; state = after_all_of update (start key).state pieces }

-- one call for key and message: it answers the same as every cutting
abbrev pub OneCall : Type 0
OneCall =
    (key : List ℕ) (pieces : List (List ℕ)) → length key ≤ longest → 64 + length (joined pieces) ≤ longest
    → code_of key (joined pieces) ≡ finish (after_all_of update (start key).state pieces)

-- and with no cutting in the sentence, of any one call
abbrev pub CodesOf : (coding : (key message : List ℕ) → Digest) → Type 0
CodesOf coding =
    (key message : List ℕ) → length key ≤ longest → 64 + length message ≤ longest
    → coding key message ≡ record { number = accepted; bytes = hmac key message }

-- from any state in order, pieces one after the other are the joined piece, and leave a state in order
abbrev pub PieceByPiece : Type 0
PieceByPiece =
    (c : Code) (pieces : List (List ℕ)) → in_order c ≡ true → c.inner.total + length (joined pieces) ≤ longest
    → (numbers_of update c pieces ≡ replicate (length pieces) accepted)
    × (after_all_of update c pieces ≡ (update c (joined pieces)).state)
    × (in_order (after_all_of update c pieces) ≡ true)

-- an empty piece changes nothing, at the limit too; there one byte is refused (10)
abbrev pub EmptyPiece : Type 0
EmptyPiece = (c : Code) → in_order c ≡ true → update c [] ≡ record { number = accepted; state = c }

abbrev pub AtLongest : Type 0
AtLongest =
    (c : Code) (byte : ℕ) → in_order c ≡ true → c.inner.total ≡ longest
    → update c (byte ∷ []) ≡ record { number = too_long; state = c }

-- what each call answers is exactly what a row says
pub record Tables : Type 0 where
  pub starts : (key : List ℕ) (answer : CodeUpdated) → (answer ≡ start key) ↔ StartRow key answer
  pub updates : (c : Code) (piece : List ℕ) (answer : CodeUpdated) → (answer ≡ update c piece) ↔ UpdateRow c piece answer
  pub finishes : (c : Code) (answer : Digest) → (answer ≡ finish c) ↔ FinishRow c answer
  pub codes : (key message : List ℕ) (answer : Digest) → (answer ≡ code_of key message) ↔ CodeRow key message answer
  pub compares_state :
      (c : Code) (expected : List ℕ) (answer : Compared)
      → (answer ≡ compare_state c expected) ↔ ((d : Digest) × FinishRow c d × HeldRow d expected answer)
  pub compares_message :
      (key message expected : List ℕ) (answer : Compared)
      → (answer ≡ compare_message key message expected) ↔ ((d : Digest) × CodeRow key message d × HeldRow d expected answer)

-- "comparison": of a state yes exactly when it is in order and the expected bytes are what finish answers; of key and message yes exactly
-- when neither is too long and the expected bytes are the code
abbrev pub StateCompared : Type 0
StateCompared =
    (c : Code) (expected : List ℕ)
    → ((compare_state c expected).same ≡ true) ↔ (Ordered c × (expected ≡ (finish c).bytes))

abbrev pub MessageCompared : Type 0
MessageCompared =
    (key message expected : List ℕ)
    → ((compare_message key message expected).same ≡ true)
    ↔ ((length key ≤ longest) × (64 + length message ≤ longest) × (expected ≡ hmac key message))

-- pieces given one after the other, and answered
pub record Cut (updating : Code → List ℕ → CodeUpdated) (c : Code) (piece : List ℕ) (pieces : List (List ℕ)) : Type 0 where
  pub after_none : after_all_of updating c [] ≡ c
  pub after_more : after_all_of updating c (piece ∷ pieces) ≡ after_all_of updating (updating c piece).state pieces
  pub number_none : numbers_of updating c [] ≡ []
  pub number_more : numbers_of updating c (piece ∷ pieces) ≡ (updating c piece).number ∷ numbers_of updating (updating c piece).state pieces

-- what a C host is told of a call on a state: its number, and the state that it gives, or the one that stands where it is refused
pub record Telling (instead after : Code) (refusal : Refusal) : Type 0 where
  pub updated : code_updated_of instead (Ok after) ≡ record { number = 0; state = after }
  pub not_updated : code_updated_of instead (Err refusal) ≡ record { number = number_by refusal; state = instead }

pub record Promises : Type 0 where
  pub key_block_lem : (key : List ℕ) → KeyBlock key
  pub xored : (block : List ℕ) (pad : ℕ) → length block ≡ 64 → Xored block pad
  pub is_hmac : (key message : List ℕ) → IsHmac key message (hmac key message)
  pub in_order_lem : InOrder
  -- "An empty key is a key"; what is started is in order, whatever the key
  pub empty_key : (start []).number ≡ accepted
  pub started : (key : List ℕ) → in_order (start key).state ≡ true
  pub any_cutting : AnyCuttingOf start update finish
  pub past_longest : PastLongest
  pub one_call : OneCall
  pub codes : CodesOf code_of
  pub piece_by_piece : PieceByPiece
  pub empty_piece : EmptyPiece
  pub at_longest : AtLongest
  pub tables : Tables
  pub state_compared : StateCompared
  pub message_compared : MessageCompared
  pub cut : (updating : Code → List ℕ → CodeUpdated) (c : Code) (piece : List ℕ) (pieces : List (List ℕ)) → Cut updating c piece pieces
  pub telling : (instead after : Code) (refusal : Refusal) → Telling instead after refusal
  -- so a host is told all that a call answered; of a start, instead of a state there is the empty key's
  pub all_updated : (c : Code) (x y : Result Code Refusal) → code_updated_of c x ≡ code_updated_of c y → x ≡ y
  pub empty_state : started_state [] ≡ key_state []
