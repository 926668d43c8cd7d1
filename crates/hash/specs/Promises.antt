-- What is promised of the hash state, over the definitions that the functions' contracts cite. Quotations are document 01's, where no
-- other paper is named.
use Rattle.std.specs.Prelude.{◌≡◌, ◌↔◌, ℕ, ◌+◌, ◌-◌, ◌%◌, ◌≤◌, ◌<◌, Bool, true, false, List, [], ◌∷◌, ◌++◌, length, get_or, take, replicate}
use Rattle.std.specs.Prelude.{Result, Ok, Err}
use Rattle.refusal.specs.Table.{accepted, state_not_in_order, too_long, wrong_size, number_by}
use Rattle.refusal.specs.declared.Refusal.{Refusal}
use Rattle.standard.specs.Standard.{IV, folded, rest, hash_value}
use Rattle.units.specs.Units.{longest}
use Rattle.padding.specs.Padding.{padding, padded}
use Rattle.hash.specs.Sm3.{sm3}
use Rattle.hash.specs.State.{fresh, is_fresh, in_order}
use Rattle.hash.specs.Update.{update}
use Rattle.hash.specs.Cutting.{joined, after_all_of, numbers_of, after_all, numbers}
use Rattle.hash.specs.Digests.{no_digest, finish, digest, compared, compare_message, compare_state}
use Rattle.hash.specs.Told.{updated_of, told_digest, compared_of}
use Rattle.hash.specs.declared.Hash.{Hash}
use Rattle.hash.specs.declared.Updated.{Updated}
use Rattle.hash.specs.declared.Digest.{Digest}
use Rattle.hash.specs.declared.Compared.{Compared}

-- "A state is in order when total is at most 2^61 - 1 and those trailing bytes are zero", byte by byte; its tail has 64 bytes
abbrev pub InOrder : Type 0
InOrder =
    (h : Hash) → length h.tail ≡ 64
    → (in_order h ≡ true)
    ↔ ((h.total ≤ longest) × ((i : ℕ) → h.total % 64 ≤ i → i < 64 → get_or h.tail i 0 ≡ 0))

-- "The fresh start": the start value, nothing taken, 64 zero bytes. It is in order, and the only state that counts as fresh
abbrev pub Fresh : Type 0
Fresh =
    (fresh ≡ record { words = IV; total = 0; tail = replicate 64 0 })
    × (in_order fresh ≡ true)
    × ((h : Hash) → (is_fresh h ≡ true) ↔ (h ≡ fresh))

-- demand 2: "however it is cut", of any update and final: for every list of pieces whose joined length is at most 2^61 - 1, each
-- update from the fresh state answers 0, and final answers sm3 of the joined bytes
abbrev pub AnyCuttingOf : (updating : Hash → List ℕ → Updated) (finishing : Hash → Digest) → Type 0
AnyCuttingOf updating finishing =
    (pieces : List (List ℕ)) → length (joined pieces) ≤ longest
    → (numbers_of updating fresh pieces ≡ replicate (length pieces) accepted)
    × (finishing (after_all_of updating fresh pieces) ≡ record { number = accepted; bytes = sm3 (joined pieces) })

abbrev pub AnyCutting : Type 0
AnyCutting = AnyCuttingOf update finish

-- the piece that would pass 2^61 - 1 is refused (10), with the state as it was
abbrev pub PastLongest : Type 0
PastLongest =
    (pieces : List (List ℕ)) (piece : List ℕ) → length (joined pieces) ≤ longest → longest < length (joined pieces) + length piece
    → update (after_all fresh pieces) piece ≡ record { number = too_long; state = after_all fresh pieces }

-- "one call for a whole message": it answers the same as every cutting
abbrev pub OneCall : Type 0
OneCall = (pieces : List (List ℕ)) → length (joined pieces) ≤ longest → digest (joined pieces) ≡ finish (after_all fresh pieces)

-- "the remaining total mod 64 bytes at the front of the tail"
abbrev pub kept_bytes : Hash → List ℕ
kept_bytes h = take (h.total % 64) h.tail

-- "From any state in order, update means: fold the kept bytes followed by the piece, block by block, from the eight words", and keep
-- what remains; "tail bytes after those are zero"
abbrev pub FromAnyState : Type 0
FromAnyState =
    (h : Hash) (piece : List ℕ) → in_order h ≡ true → h.total + length piece ≤ longest
    → update h piece
    ≡ record {
      number = accepted;
      state = record {
        words = folded h.words (kept_bytes h ++ piece);
        total = h.total + length piece;
        tail = rest (kept_bytes h ++ piece) ++ replicate (64 - length (rest (kept_bytes h ++ piece))) 0;
      };
    }

-- "Final folds the padding and answers 32 bytes": from any state in order
abbrev pub FinalOfAnyState : Type 0
FinalOfAnyState =
    (h : Hash) → in_order h ≡ true
    → finish h ≡ record { number = accepted; bytes = hash_value (folded h.words (kept_bytes h ++ padding h.total)) }

-- from any state in order, pieces one after the other are the joined piece, and leave a state in order
abbrev pub PieceByPiece : Type 0
PieceByPiece =
    (h : Hash) (pieces : List (List ℕ)) → in_order h ≡ true → h.total + length (joined pieces) ≤ longest
    → (numbers h pieces ≡ replicate (length pieces) accepted)
    × (after_all h pieces ≡ (update h (joined pieces)).state)
    × (in_order (after_all h pieces) ≡ true)

-- what is said of pieces is said of this update, given one after the other
abbrev pub ByUpdate : Type 0
ByUpdate =
    (h : Hash) (pieces : List (List ℕ)) → (after_all h pieces ≡ after_all_of update h pieces) × (numbers h pieces ≡ numbers_of update h pieces)

-- the standard's message digest: the padded message folded from the start words, and the words written out
abbrev pub MessageDigest : Type 0
MessageDigest = (message : List ℕ) → sm3 message ≡ hash_value (folded IV (padded message))

-- "An empty piece changes nothing"
abbrev pub EmptyPiece : Type 0
EmptyPiece = (h : Hash) → in_order h ≡ true → update h [] ≡ record { number = accepted; state = h }

-- "A state in order with total 2^61 - 1 takes an empty piece and refuses one byte (10)"
abbrev pub AtLongest : Type 0
AtLongest =
    (h : Hash) (byte : ℕ) → in_order h ≡ true → h.total ≡ longest
    → (update h [] ≡ record { number = accepted; state = h }) × (update h (byte ∷ []) ≡ record { number = too_long; state = h })

-- update's rows of the table: 9 and 10 "exactly when", "state same"; and 0 exactly when neither is given
abbrev pub UpdateRefusals : Type 0
UpdateRefusals =
    (h : Hash) (piece : List ℕ)
    → (((update h piece).number ≡ state_not_in_order) ↔ (in_order h ≡ false))
    × (((update h piece).number ≡ too_long) ↔ ((in_order h ≡ true) × (longest < h.total + length piece)))
    × (((update h piece).number ≡ accepted) ↔ ((in_order h ≡ true) × (h.total + length piece ≤ longest)))
    × (((update h piece).number ≡ accepted → ⊥) → (update h piece).state ≡ h)

-- final's row: 9, "digest all zero". A digest has 32 bytes, refused or not
abbrev pub FinishRefusals : Type 0
FinishRefusals =
    (h : Hash)
    → (((finish h).number ≡ state_not_in_order) ↔ (in_order h ≡ false))
    × (((finish h).number ≡ accepted) ↔ (in_order h ≡ true))
    × (((finish h).number ≡ accepted → ⊥) → (finish h).bytes ≡ replicate 32 0)
    × (length (finish h).bytes ≡ 32)

-- the one call's row: 10, "digest all zero"
abbrev pub DigestRefusals : Type 0
DigestRefusals =
    (message : List ℕ)
    → (((digest message).number ≡ too_long) ↔ (longest < length message))
    × (((digest message).number ≡ accepted) ↔ (length message ≤ longest))
    × (((digest message).number ≡ accepted → ⊥) → (digest message).bytes ≡ replicate 32 0)
    × (length (digest message).bytes ≡ 32)

-- the one call's digest: the message's, with no cutting in the sentence
abbrev pub Digests : Type 0
Digests = (message : List ℕ) → length message ≤ longest → digest message ≡ record { number = accepted; bytes = sm3 message }

-- pieces, joined, given one after the other, and answered
pub record Cut (updating : Hash → List ℕ → Updated) (h : Hash) (piece : List ℕ) (pieces : List (List ℕ)) : Type 0 where
  pub join_none : joined [] ≡ []
  pub join_more : joined (piece ∷ pieces) ≡ piece ++ joined pieces
  pub after_none : after_all_of updating h [] ≡ h
  pub after_more : after_all_of updating h (piece ∷ pieces) ≡ after_all_of updating (updating h piece).state pieces
  pub number_none : numbers_of updating h [] ≡ []
  pub number_more : numbers_of updating h (piece ∷ pieces) ≡ (updating h piece).number ∷ numbers_of updating (updating h piece).state pieces

-- "10, 11 for one-call comparison": yes exactly when the expected bytes are the message's digest
abbrev pub MessageCompared : Type 0
MessageCompared =
    (message expected : List ℕ)
    → (((compare_message message expected).number ≡ too_long) ↔ (longest < length message))
    × (((compare_message message expected).number ≡ wrong_size) ↔ ((length message ≤ longest) × (length expected ≡ 32 → ⊥)))
    × (((compare_message message expected).number ≡ accepted) ↔ ((length message ≤ longest) × (length expected ≡ 32)))
    × (((compare_message message expected).same ≡ true) ↔ ((length message ≤ longest) × (expected ≡ sm3 message)))

-- comparison of a state, order 9, 11: yes exactly when the expected bytes are what final answers
abbrev pub StateCompared : Type 0
StateCompared =
    (h : Hash) (expected : List ℕ)
    → (((compare_state h expected).number ≡ state_not_in_order) ↔ (in_order h ≡ false))
    × (((compare_state h expected).number ≡ wrong_size) ↔ ((in_order h ≡ true) × (length expected ≡ 32 → ⊥)))
    × (((compare_state h expected).number ≡ accepted) ↔ ((in_order h ≡ true) × (length expected ≡ 32)))
    × (((compare_state h expected).same ≡ true) ↔ ((in_order h ≡ true) × (expected ≡ (finish h).bytes)))

-- a digest held against expected bytes: what it was refused for comes first, then 11, and a refused comparison says no
pub record Held (d : Digest) (expected : List ℕ) (answer : Compared) : Type 0 where
  pub refused : (d.number ≡ accepted → ⊥) → answer ≡ record { number = d.number; same = false }
  pub wrong_size_lem : d.number ≡ accepted → (length expected ≡ 32 → ⊥) → answer ≡ record { number = wrong_size; same = false }
  pub number : d.number ≡ accepted → length expected ≡ 32 → answer.number ≡ accepted
  pub same_bytes : d.number ≡ accepted → length expected ≡ 32 → (answer.same ≡ true) ↔ (d.bytes ≡ expected)

-- a refused digest: "all zero"
abbrev pub NoDigest : Type 0
NoDigest = (number : ℕ) → no_digest number ≡ record { number = number; bytes = replicate 32 0 }

-- what a C host is told of a call: its number, and what it gives, or what stands there where it is refused
pub record Telling (h : Hash) (bytes : List ℕ) (same : Bool) (refusal : Refusal) : Type 0 where
  pub updated : (after : Hash) → updated_of h (Ok after) ≡ record { number = accepted; state = after }
  pub not_updated : updated_of h (Err refusal) ≡ record { number = number_by refusal; state = h }
  pub digested : told_digest (Ok bytes) ≡ record { number = accepted; bytes = bytes }
  pub not_digested : told_digest (Err refusal) ≡ record { number = number_by refusal; bytes = replicate 32 0 }
  pub compared : compared_of (Ok same) ≡ record { number = accepted; same = same }
  pub not_compared : compared_of (Err refusal) ≡ record { number = number_by refusal; same = false }

pub record Promises : Type 0 where
  pub in_order_lem : InOrder
  pub fresh_state : Fresh
  pub any_cutting : AnyCutting
  pub past_longest : PastLongest
  pub one_call : OneCall
  pub from_any_state : FromAnyState
  pub final_of_any_state : FinalOfAnyState
  pub piece_by_piece : PieceByPiece
  pub by_update : ByUpdate
  pub message_digest : MessageDigest
  pub empty_piece : EmptyPiece
  pub at_longest : AtLongest
  pub update_refusals : UpdateRefusals
  pub finish_refusals : FinishRefusals
  pub digests : Digests
  pub cut : (updating : Hash → List ℕ → Updated) (h : Hash) (piece : List ℕ) (pieces : List (List ℕ)) → Cut updating h piece pieces
  pub digest_refusals : DigestRefusals
  pub message_compared : MessageCompared
  pub state_compared : StateCompared
  pub held : (d : Digest) (expected : List ℕ) → Held d expected (compared d expected)
  pub no_digest_lem : NoDigest
  pub telling : (h : Hash) (bytes : List ℕ) (same : Bool) (refusal : Refusal) → Telling h bytes same refusal
  -- so a host is told all that a call answered
  pub all_updated : (h : Hash) (x y : Result Hash Refusal) → updated_of h x ≡ updated_of h y → x ≡ y
  pub all_digested : (x y : Result (List ℕ) Refusal) → told_digest x ≡ told_digest y → x ≡ y
  pub all_compared : (x y : Result Bool Refusal) → compared_of x ≡ compared_of y → x ≡ y
