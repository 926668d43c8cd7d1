-- What the words of specs/Sequences.antt mean, proved. Assumes nothing.
use Prim.Native.Nat.{ℕ}
use mathlib.Core.Path.{◌≡◌, refl}
use mathlib.Core.List.{List, []}
use borrow.Author.Tests.{eq-eqb, ne_eqb}
use Rattle.refusal.specs.Table.{accepted}
use Rattle.session.specs.Operations.{Operation, note_of, deliver, perform, doing}
use Rattle.session.specs.declared.Session.{Session}
use Rattle.promises.specs.Sequences.{after, piece_of, added_bytes, accepted_bytes, own_operations, own_answers}
use Rattle.promises.specs.Sequencing.{Step, Sequencing}

step_is : (s : Session) (note : ℕ) (piece : List ℕ) (os : List Operation) → Step s note piece os
unfolding after piece_of added_bytes accepted_bytes own_operations own_answers note_of perform doing deliver
step_is s note piece os =
    record {
      goes_on = refl;
      adds = λ good. rw (eq-eqb note note refl, eq-eqb _ accepted good);
      refused = λ bad. rw (eq-eqb note note refl, ne_eqb _ accepted bad);
      other_bytes = λ m apart. rw (ne_eqb note m apart);
      own = rw (eq-eqb note note refl);
      other = λ m apart. rw (ne_eqb note m apart);
      own_answer = rw (eq-eqb note note refl);
      other_answer = λ m apart. rw (ne_eqb note m apart);
    }

none_is : (s : Session) (note : ℕ)
    → (after s [] ≡ s) × (accepted_bytes note s [] ≡ []) × (own_operations note [] ≡ []) × (own_answers note s [] ≡ [])
unfolding after accepted_bytes own_operations own_answers
none_is s note = (refl, refl, refl, refl)

pub sequencing : Sequencing
sequencing = record { none = none_is; step = step_is }
