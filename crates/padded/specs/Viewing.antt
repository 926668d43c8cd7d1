-- "Viewing": document 01, "Padded blocks". Order of refusals: 10, 11, 13, 12.
use Rattle.std.specs.Prelude.{ℕ, ◌+◌, ◌*◌, ◌-◌, ◌/◌, List, cond, ltb, eqb, length, take, drop, Option, Some, None}
use Rattle.std.specs.Borrow.{Bor}
use Rattle.refusal.specs.Table.{accepted, too_long, wrong_size, other_tail, no_such_block}
use Rattle.buffers.specs.Same.{same}
use Rattle.units.specs.Units.{longest}
use Rattle.padding.specs.Padding.{block_count}
use Rattle.padding.specs.Writing.{tail_of, tail_size}
use Rattle.padded.specs.declared.Place.{Place}
use Rattle.padded.specs.declared.Block.{Block}
use Rattle.padded.specs.declared.Block.TheVariants.{InMessage, InBuffer}

-- the number for block i of the padded message, given the message and the tail buffer
unfoldable pub view_number : List ℕ → List ℕ → ℕ → ℕ
view_number message buffer i =
    cond (ltb longest (length message)) too_long
    (cond (ltb (length buffer) (tail_size (length message))) wrong_size
    (cond (same (take (tail_size (length message)) buffer) (tail_of message))
    (cond (ltb i (block_count (length message))) accepted no_such_block)
    other_tail))

-- Where a part lies: which of the two it is part of, from which byte, and how many
abbrev pub in_neither : ℕ
in_neither = 0

abbrev pub in_message : ℕ
in_message = 1

abbrev pub in_buffer : ℕ
in_buffer = 2

-- what a C host is told of where a block lies
abbrev pub place_of : Option Block → Place
place_of None = record { which = in_neither; offset = 0; length = 0 }
place_of (Some (InMessage from)) = record { which = in_message; offset = from; length = 64 }
place_of (Some (InBuffer from)) = record { which = in_buffer; offset = from; length = 64 }

-- "part of the message where it lies wholly inside it, else .. part of the tail buffer"; "empty part" where the number is a refusal
unfoldable pub view_place : List ℕ → List ℕ → ℕ → Place
view_place message buffer i =
    cond (eqb (view_number message buffer i) accepted)
    (cond (ltb i (length message / 64)) (record { which = in_message; offset = 64 * i; length = 64 })
    (record { which = in_buffer; offset = 64 * (i - length message / 64); length = 64 }))
    (record { which = in_neither; offset = 0; length = 0 })

-- the bytes of the part
unfoldable pub view_part : List ℕ → List ℕ → ℕ → List ℕ
view_part message buffer i =
    let p = view_place message buffer i in
    take p.length (drop p.offset (cond (eqb p.which in_message) message buffer))

-- and its address, from where the message and the buffer lie: "Nothing is copied"
unfoldable pub view_address : Bor (List ℕ) → Bor (List ℕ) → ℕ → ℕ × ℕ
view_address message buffer i =
    let p = view_place message.now buffer.now i in
    let lent = cond (eqb p.which in_message) message.ref_ptr buffer.ref_ptr in
    (lent.0, p.offset + lent.1)
