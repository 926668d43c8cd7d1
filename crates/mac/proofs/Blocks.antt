-- A key's block, and the block xored. Assumes nothing.
use mathlib.Core.Path.{◌≡◌, refl, sym, ap, ◌∙◌}
use Prim.Native.Nat.{ℕ, zero, suc, ◌+◌, ◌-◌, ◌≤◌, ◌<◌}
use native.Mathlib.Nat.{zero-add}
use native.Mathlib.Numerals.{add-one}
use native.Mathlib.Omega.{arith}
use mathlib.Core.Logic.{inl, inr}
use mathlib.Core.List.{List, [], ◌∷◌, ◌++◌, append-nil}
use lib.Bits.{bit_xor}
use lib.ListN.{length, get_or, set, take, drop, replicate, length-append, length-replicate, drop_of_length-le}
use lib.Seq.{take_all}
use borrow.Author.Tests.{lt-ltb, le-ltb}
use Rattle.truth.proofs.Tests.{below_or_not}
use Rattle.units.specs.Units.{longest}
use Rattle.buffers.specs.Copy.{copied}
use Rattle.std.specs.Prelude.{Ok, Err}
use Rattle.refusal.specs.Table.{accepted, too_long}
use Rattle.refusal.specs.declared.Refusal.{Refusal}
use Rattle.refusal.specs.declared.Refusal.TheVariants
use Rattle.refusal.proofs.Telling.{one_number, not_accepted}
use Rattle.standard.proofs.Folding.{rest_whole}
use Rattle.hash.specs.Sm3.{sm3}
use Rattle.hash.specs.State.{fresh, as_tail}
use Rattle.hash.specs.Update.{after_piece, update as hash_update}
use Rattle.hash.specs.Digests.{no_digest, digest}
use Rattle.hash.specs.Told.{told_digest}
use Rattle.hash.specs.declared.Digest.{Digest}
use Rattle.hash.proofs.State.{parts, tail_copied, inOrder_fresh}
use Rattle.hash.proofs.Taking.{afterPiece_whole}
use Rattle.hash.proofs.Updating.{update_takes}
use Rattle.hash.proofs.Cutting.{digest_passes, digest_sm3}
use Rattle.hash.proofs.Refusing.{length_sm3}
use Rattle.mac.specs.Hmac.{◌⊕◌, short_key, key_block}
use Rattle.mac.specs.Codes.{block_of}
use Rattle.mac.specs.Promises.{after_block, KeyBlock, Xored}

-- bytes xored with the same byte, as often as there are bytes
pub length_xored : (block : List ℕ) (n pad : ℕ) → length block ≡ n → length (block ⊕ replicate n pad) ≡ n
unfolding ◌⊕◌
length_xored [] zero pad e = refl
length_xored [] (suc n) pad e = omega arith
length_xored (b ∷ bs) zero pad e = omega arith
length_xored (b ∷ bs) (suc n) pad e = ap suc (length_xored bs n pad (omega arith))

pub getD_xored : (block : List ℕ) (n pad i : ℕ) → length block ≡ n → i < n → get_or (block ⊕ replicate n pad) i 0 ≡ bit_xor (get_or block i 0) pad
unfolding ◌⊕◌
getD_xored [] (suc n) pad i e h = omega arith
getD_xored (b ∷ bs) (suc n) pad zero e h = refl
getD_xored (b ∷ bs) (suc n) pad (suc i) e h = getD_xored bs n pad i (omega arith) (omega arith)
getD_xored block zero pad i e h = omega arith

pub xored : (block : List ℕ) (pad : ℕ) → length block ≡ 64 → Xored block pad
xored block pad e = record { size = length_xored block 64 pad e; bytes = λ i h. getD_xored block 64 pad i e h }

-- the front of a block xored, and the rest as it was
abbrev pub xored_to : (block : List ℕ) (pad i : ℕ) → List ℕ
xored_to block pad i = take i (block ⊕ replicate (length block) pad) ++ drop i block

pub xored_more : (block : List ℕ) (pad i : ℕ) → i < length block
    → set (xored_to block pad i) i (bit_xor (get_or (xored_to block pad i) i 0) pad) ≡ xored_to block pad (suc i)
unfolding ◌⊕◌
xored_more [] pad i h = absurd (omega arith)
xored_more (b ∷ bs) pad zero h = refl
xored_more (b ∷ bs) pad (suc i) h = ap (λ (s : List ℕ). bit_xor b pad ∷ s) (xored_more bs pad i (omega arith))

length_xored_to : (block : List ℕ) (pad i : ℕ) → length (xored_to block pad i) ≡ length block
unfolding ◌⊕◌
length_xored_to [] pad zero = refl
length_xored_to [] pad (suc i) = refl
length_xored_to (b ∷ bs) pad zero = refl
length_xored_to (b ∷ bs) pad (suc i) = ap suc (length_xored_to bs pad i)

pub xored_next : (block items : List ℕ) (pad i : ℕ) → items ≡ xored_to block pad i → i < length items
    → set items i (bit_xor (get_or items i 0) pad) ≡ xored_to block pad (i + 1)
xored_next block items pad i e h = rw (e, add-one) (xored_more block pad i (omega (arith, length_xored_to block pad i, ap length e)))

pub xored_all : (block : List ℕ) (pad i : ℕ) → length block ≤ i → xored_to block pad i ≡ block ⊕ replicate (length block) pad
xored_all block pad i h =
    let n = length_xored block (length block) pad refl in
    rw (take_all i (block ⊕ replicate (length block) pad) (omega arith), drop_of_length-le block {i = i} h) (append-nil (block ⊕ replicate (length block) pad))

-- a key's block, by its length
pub short_block : (key : List ℕ) → length key ≤ 64 → key_block key ≡ as_tail key
unfolding key_block short_key as_tail
short_block key h = rw (le-ltb 64 (length key) h)

pub long_block : (key : List ℕ) → 64 < length key → key_block key ≡ as_tail (sm3 key)
unfolding key_block short_key as_tail
long_block key h = rw (lt-ltb 64 (length key) h)

length_tail : (s : List ℕ) → length s ≤ 64 → length (as_tail s) ≡ 64
unfolding as_tail
length_tail s h = omega (arith, length-append s (replicate (64 - length s) 0), length-replicate {A = ℕ} (64 - length s) 0)

pub length_block : (key : List ℕ) → length (key_block key) ≡ 64
length_block key =
    elim (below_or_not 64 (length key)) [
      | inl h ↦ ap length (long_block key h) ∙ length_tail (sm3 key) (omega (arith, length_sm3 key))
      | inr h ↦ ap length (short_block key h) ∙ length_tail key h
    ]

pub key_block_lem : (key : List ℕ) → KeyBlock key
unfolding as_tail
key_block_lem key =
    record {
      short = short_block key;
      long = λ h. long_block key h ∙ rw (length_sm3 key);
      size = length_block key;
    }

-- as the code lays it down
pub copied_short : (key : List ℕ) → length key ≤ 64 → copied (replicate 64 0) 0 key ≡ key_block key
copied_short key h = tail_copied key h ∙ sym (short_block key h)

pub block_short : (key : List ℕ) → length key ≤ 64 → Ok (copied (replicate 64 0) 0 key) ≡ block_of key
unfolding block_of
block_short key h = rw (le-ltb longest (length key) (omega arith)) (ap Ok (copied_short key h))

-- of a longer one: its digest, or what refuses that
pub block_long : (key d : List ℕ) → 64 < length key → told_digest (Ok d) ≡ digest key → Ok (copied (replicate 64 0) 0 d) ≡ block_of key
unfolding block_of no_digest
block_long key d h e =
    elim (below_or_not longest (length key)) [
      | inl past ↦ let n : accepted ≡ too_long = ap (λ (x : Digest). x.number) (e ∙ digest_passes key past) in absurd (omega arith)
      | inr fits ↦
          let b : d ≡ sm3 key = ap (λ (x : Digest). x.bytes) (e ∙ digest_sm3 key fits) in
          rw (le-ltb longest (length key) fits, b) (ap Ok (tail_copied (sm3 key) (omega (arith, length_sm3 key)) ∙ sym (long_block key h)))
    ]

pub block_refused : (key : List ℕ) (r : Refusal) → told_digest (Err r) ≡ digest key → Err r ≡ block_of key
unfolding block_of no_digest
block_refused key r e =
    elim (below_or_not longest (length key)) [
      | inl past ↦
          rw (lt-ltb longest (length key) past)
          (ap Err (one_number r TheVariants.TooLong (ap (λ (x : Digest). x.number) (e ∙ digest_passes key past))))
      | inr fits ↦ absurd (not_accepted r (ap (λ (x : Digest). x.number) (e ∙ digest_sm3 key fits)))
    ]

pub ruleset blocks = (block_short, block_long, block_refused)

-- and what is known of a key by its block
pub record Blocked (key block : List ℕ) : Type 0 where
  pub fits : length key ≤ longest
  pub is : block ≡ key_block key

pub blocked : (key block : List ℕ) → Ok block ≡ block_of key → Blocked key block
unfolding block_of
blocked key block e =
    elim (below_or_not longest (length key)) [
      | inl past ↦ let f = rw (lt-ltb longest (length key) past) at e in cc
      | inr fits ↦ let f = rw (le-ltb longest (length key) fits) at e in record { fits = fits; is = cc }
    ]

pub not_blocked : (key : List ℕ) (r : Refusal) → Err r ≡ block_of key → (longest < length key) × (r ≡ TheVariants.TooLong)
unfolding block_of
not_blocked key r e =
    elim (below_or_not longest (length key)) [
      | inl past ↦ let f = rw (lt-ltb longest (length key) past) at e in (past, cc)
      | inr fits ↦ let f = rw (le-ltb longest (length key) fits) at e in cc
    ]

-- the state that has taken one block
pub fresh_takes : (m : List ℕ) → length m ≤ longest → hash_update fresh m ≡ record { number = accepted; state = after_piece fresh m }
unfolding fresh
fresh_takes m fits = update_takes fresh m inOrder_fresh (omega arith)

pub block_taken : (block : List ℕ) → length block ≡ 64 → (hash_update fresh block).state ≡ after_block block
unfolding fresh as_tail
block_taken block l =
    ap (λ u. u.state) (fresh_takes block (omega arith))
    ∙ afterPiece_whole fresh inOrder_fresh block refl
    ∙ parts refl (zero-add (length block) ∙ l) (ap as_tail (rest_whole block (omega arith)))
