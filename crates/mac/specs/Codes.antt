-- A code state and its calls: 4/13, "fed by pieces as the hash is, with comparison". "Order 9, 10, 11".
use Rattle.std.specs.Prelude.{ℕ, ◌+◌, List, [], Bool, cond, ◌&&◌, leb, ltb, eqb, length, Result, Ok, Err}
use Rattle.refusal.specs.Table.{accepted, state_not_in_order, too_long}
use Rattle.refusal.specs.declared.Refusal.{Refusal}
use Rattle.refusal.specs.declared.Refusal.TheVariants
use Rattle.units.specs.Units.{longest}
use Rattle.hash.specs.State.{fresh, in_order as hash_in_order}
use Rattle.hash.specs.Update.{update as hash_update}
use Rattle.hash.specs.Digests.{no_digest, finish as hash_finish, compared}
use Rattle.hash.specs.declared.Digest.{Digest}
use Rattle.hash.specs.declared.Compared.{Compared}
use Rattle.mac.specs.Hmac.{◌⊕◌, ipad, opad, key_block, hmac}
use Rattle.mac.specs.declared.Code.{Code}
use Rattle.mac.specs.declared.CodeUpdated.{CodeUpdated}

-- a key's block, or "10 for a key above 2^61 - 1 bytes"
unfoldable pub block_of : (key : List ℕ) → Result (List ℕ) Refusal
block_of key = cond (ltb longest (length key)) (Err TheVariants.TooLong) (Ok (key_block key))

-- a key's state: the inner has taken K XOR ipad, the outer K XOR opad
unfoldable pub started : (key : List ℕ) → Code
started key =
    record { inner = (hash_update fresh (key_block key ⊕ ipad)).state; outer = (hash_update fresh (key_block key ⊕ opad)).state }

-- "An empty key is a key; a refused key gives the empty key's state"; "10 for a key above 2^61 - 1 bytes"
unfoldable pub start : (key : List ℕ) → CodeUpdated
start key =
    cond (ltb longest (length key)) (record { number = too_long; state = started [] }) (record { number = accepted; state = started key })

-- in order: none of "a hash state isn't in order, the inner has under 64 bytes or the outer other than 64"
unfoldable pub in_order : Code → Bool
in_order c = hash_in_order c.inner && hash_in_order c.outer && leb 64 c.inner.total && eqb c.outer.total 64

-- the piece goes into the inner, whose total has the 64 bytes of the key's block in it: so its 10 is that of "a message that passes it with
-- its inner 64-byte block counted". Refused, the state is the same
unfoldable pub update : Code → (piece : List ℕ) → CodeUpdated
update c piece =
    let inner = hash_update c.inner piece in
    cond (in_order c) (record { number = inner.number; state = record { inner = inner.state; outer = c.outer } })
    (record { number = state_not_in_order; state = c })

-- the outer takes the inner's digest, and its digest is the code; refused, it is all zero
unfoldable pub finish : Code → Digest
finish c =
    cond (in_order c) (hash_finish (hash_update c.outer (hash_finish c.inner).bytes).state) (no_digest state_not_in_order)

-- one call for key and message: 10 of the key, then of the message
unfoldable pub code_of : (key message : List ℕ) → Digest
code_of key message =
    cond (ltb longest (length key)) (no_digest too_long)
    (cond (ltb longest (64 + length message)) (no_digest too_long) (record { number = accepted; bytes = hmac key message }))

-- "with comparison": of a state, and of key and message. What the code was refused for comes first, then 11, "a code not of 32 bytes"
unfoldable pub compare_state : Code → (expected : List ℕ) → Compared
compare_state c expected = compared (finish c) expected

unfoldable pub compare_message : (key message expected : List ℕ) → Compared
compare_message key message expected = compared (code_of key message) expected
