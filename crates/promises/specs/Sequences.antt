-- Sequences of operations, for demand 3. The only operation is a delivery.
use Rattle.std.specs.Prelude.{ℕ, List, [], ◌∷◌, ◌++◌, cond, ◌&&◌, eqb}
use Rattle.refusal.specs.Table.{accepted}
use Rattle.session.specs.Operations.{Operation, delivery, note_of, perform}
use Rattle.session.specs.declared.Session.{Session}
use Rattle.slots.specs.declared.Answer.{Answer}

-- the session after these operations, one after the other
unfoldable pub after : Session → List Operation → Session
after s [] = s
after s (o ∷ os) = after (perform s o).session os

-- the piece that an operation brings
unfoldable pub piece_of : Operation → List ℕ
piece_of (delivery note piece) = piece

-- what an operation adds to the bytes accepted for a note: its piece, if it is the note's own and is answered 0
unfoldable pub added_bytes : (note : ℕ) → Session → Operation → List ℕ
added_bytes note s o = cond (eqb (note_of o) note && eqb (perform s o).answer.number accepted) (piece_of o) []

-- demand 3: "the bytes accepted for it", joined
unfoldable pub accepted_bytes : (note : ℕ) → Session → List Operation → List ℕ
accepted_bytes note s [] = []
accepted_bytes note s (o ∷ os) = added_bytes note s o ++ accepted_bytes note (perform s o).session os

-- a note's own operations, in their order
unfoldable pub own_operations : (note : ℕ) → List Operation → List Operation
own_operations note [] = []
own_operations note (o ∷ os) = cond (eqb (note_of o) note) (o ∷ own_operations note os) (own_operations note os)

-- what a note's own operations were answered, in their order
unfoldable pub own_answers : (note : ℕ) → Session → List Operation → List Answer
own_answers note s [] = []
own_answers note s (o ∷ os) =
    let done = perform s o in
    let later = own_answers note done.session os in
    cond (eqb (note_of o) note) (done.answer ∷ later) later
