-- Final, the one call for a whole message, and comparison with an expected digest: document 01, "The hash state" and "Refusal numbers".
use Rattle.std.specs.Prelude.{ℕ, List, ◌++◌, false, cond, ltb, eqb, length, replicate}
use Rattle.refusal.specs.Table.{accepted, state_not_in_order, too_long, wrong_size}
use Rattle.buffers.specs.Same.{same}
use Rattle.standard.specs.Standard.{folded, hash_value}
use Rattle.units.specs.Units.{longest}
use Rattle.padding.specs.Padding.{padding}
use Rattle.hash.specs.Sm3.{sm3}
use Rattle.hash.specs.State.{kept, in_order}
use Rattle.hash.specs.declared.Hash.{Hash}
use Rattle.hash.specs.declared.Digest.{Digest}
use Rattle.hash.specs.declared.Compared.{Compared}

-- a refused digest is "all zero"
unfoldable pub no_digest : ℕ → Digest
no_digest number = record { number = number; bytes = replicate 32 0 }

-- "Final folds the padding and answers 32 bytes"; refusal 9
unfoldable pub finish : Hash → Digest
unfolding no_digest
finish h =
    cond (in_order h) (record { number = accepted; bytes = hash_value (folded h.words (kept h ++ padding h.total)) })
    (no_digest state_not_in_order)

-- "one call for a whole message"; refusal 10
unfoldable pub digest : List ℕ → Digest
unfolding no_digest
digest message = cond (ltb longest (length message)) (no_digest too_long) (record { number = accepted; bytes = sm3 message })

-- a digest held against an expected one: what the digest was refused for comes first, then 11; a refused comparison says no
unfoldable pub compared : Digest → List ℕ → Compared
compared d expected =
    cond (eqb d.number accepted)
    (cond (eqb (length expected) 32) (record { number = accepted; same = same d.bytes expected })
    (record { number = wrong_size; same = false }))
    (record { number = d.number; same = false })

-- "10, 11 for one-call comparison"; of a state 9, 11 (docs/DECISIONS.md)
unfoldable pub compare_message : List ℕ → List ℕ → Compared
compare_message message expected = compared (digest message) expected

unfoldable pub compare_state : Hash → List ℕ → Compared
compare_state h expected = compared (finish h) expected
