-- "The hash state": document 01.
use Rattle.std.specs.Prelude.{ℕ, ◌-◌, ◌%◌, List, [], ◌∷◌, ◌++◌, Bool, ◌&&◌, leb, eqb, length, take, drop, replicate}
use Rattle.buffers.specs.Same.{same}
use Rattle.standard.specs.declared.Words.{Words}
use Rattle.standard.specs.Standard.{IV}
use Rattle.units.specs.Units.{longest}
use Rattle.hash.specs.declared.Hash.{Hash}

-- "The fresh start": the start value, nothing taken, 64 zero bytes
unfoldable pub fresh : Hash
fresh = record { words = IV; total = 0; tail = replicate 64 0 }

-- eight words as a list
unfoldable pub in_list : Words → List ℕ
in_list v = v.a ∷ v.b ∷ v.c ∷ v.d ∷ v.e ∷ v.f ∷ v.g ∷ v.h ∷ []

-- whether a state is the fresh one: its words, its total and its tail
unfoldable pub is_fresh : Hash → Bool
is_fresh h = same (in_list h.words) (in_list IV) && eqb h.total 0 && same h.tail (replicate 64 0)

-- "the remaining total mod 64 bytes at the front of the tail"
unfoldable pub kept : Hash → List ℕ
kept h = take (h.total % 64) h.tail

-- "A state is in order when total is at most 2^61 - 1 and those trailing bytes are zero"
unfoldable pub in_order : Hash → Bool
in_order h = leb h.total longest && same (drop (h.total % 64) h.tail) (replicate (64 - h.total % 64) 0)

-- bytes at the front of a tail, "tail bytes after those are zero"
unfoldable pub as_tail : List ℕ → List ℕ
as_tail bytes = bytes ++ replicate (64 - length bytes) 0
