-- "Writing": document 01, "Padded blocks".
use Rattle.std.specs.Prelude.{ℕ, ◌%◌, List, ◌++◌, cond, ltb, eqb, length, take, drop}
use Rattle.refusal.specs.Table.{accepted, too_long, wrong_size, refused_by, wrote}
use Rattle.standard.specs.Standard.{rest}
use Rattle.units.specs.Units.{longest}
use Rattle.padding.specs.Padding.{padding}
use Rattle.refusal.specs.declared.Written.{Written}

-- "the last m mod 64 message bytes and the padding"
unfoldable pub tail_of : List ℕ → List ℕ
tail_of message = rest message ++ padding (length message)

-- "the first 64 or 128 bytes of the buffer": one block holds up to 55 bytes, the 80 byte and the length
unfoldable pub tail_size : ℕ → ℕ
tail_size m = cond (ltb (m % 64) 56) 64 128

-- number and count for m bytes and a buffer of so many: refusals 10, 11 in this order
unfoldable pub tail_answer : ℕ → ℕ → Written
tail_answer m room = cond (ltb longest m) (refused_by too_long) (cond (ltb room (tail_size m)) (refused_by wrong_size) (wrote (tail_size m)))

-- the buffer once the padding of m bytes is written behind the m mod 64 bytes at its front: later bytes keep their content.
-- A refused call leaves all as it was.
unfoldable pub tail_after : ℕ → List ℕ → List ℕ
tail_after m buffer =
    cond (eqb (tail_answer m (length buffer)).number accepted) (take (m % 64) buffer ++ (padding m ++ drop (tail_size m) buffer)) buffer

-- what the writer answers for a message
unfoldable pub written : List ℕ → List ℕ → Written
written message buffer = tail_answer (length message) (length buffer)

-- what is in the buffer afterwards: "Later bytes keep their content"; a refused call leaves all as it was
unfoldable pub buffer_after : List ℕ → List ℕ → List ℕ
buffer_after message buffer =
    cond (eqb (written message buffer).number accepted) (tail_of message ++ drop (tail_size (length message)) buffer) buffer
