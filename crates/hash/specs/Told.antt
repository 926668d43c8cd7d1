-- What a C host is told of a call: each of these determines what the call answered (`all_updated` and on, in Promises.antt).
use Rattle.std.specs.Prelude.{ℕ, List, Bool, false, Result, Ok, Err}
use Rattle.refusal.specs.Table.{accepted, number_by}
use Rattle.refusal.specs.declared.Refusal.{Refusal}
use Rattle.hash.specs.Digests.{no_digest}
use Rattle.hash.specs.declared.Hash.{Hash}
use Rattle.hash.specs.declared.Updated.{Updated}
use Rattle.hash.specs.declared.Digest.{Digest}
use Rattle.hash.specs.declared.Compared.{Compared}

-- of an update: "state same" where it is refused
abbrev pub updated_of : (before : Hash) → Result Hash Refusal → Updated
updated_of before (Ok after) = record { number = accepted; state = after }
updated_of before (Err refusal) = record { number = number_by refusal; state = before }

-- of a digest
abbrev pub told_digest : Result (List ℕ) Refusal → Digest
told_digest (Ok bytes) = record { number = accepted; bytes = bytes }
told_digest (Err refusal) = no_digest (number_by refusal)

-- of a comparison: a refused one says no
abbrev pub compared_of : Result Bool Refusal → Compared
compared_of (Ok same) = record { number = accepted; same = same }
compared_of (Err refusal) = record { number = number_by refusal; same = false }
