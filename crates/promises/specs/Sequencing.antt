-- What the words of specs/Sequences.antt mean, step by step.
use Rattle.std.specs.Prelude.{ℕ, ◌≡◌, List, [], ◌∷◌, ◌++◌}
use Rattle.refusal.specs.Table.{accepted}
use Rattle.session.specs.Operations.{Operation, delivery, deliver}
use Rattle.session.specs.declared.Session.{Session}
use Rattle.promises.specs.Sequences.{after, accepted_bytes, own_operations, own_answers}

-- a delivery, and then others
pub record Step (s : Session) (note : ℕ) (piece : List ℕ) (os : List Operation) : Type 0 where
  pub goes_on : after s (delivery note piece ∷ os) ≡ after (deliver s note piece).session os
  -- the bytes that it adds: its piece to its own note, where it is accepted
  pub adds :
      (deliver s note piece).answer.number ≡ accepted
      → accepted_bytes note s (delivery note piece ∷ os) ≡ piece ++ accepted_bytes note (deliver s note piece).session os
  pub refused :
      ((deliver s note piece).answer.number ≡ accepted → ⊥)
      → accepted_bytes note s (delivery note piece ∷ os) ≡ accepted_bytes note (deliver s note piece).session os
  pub other_bytes :
      (m : ℕ) → (note ≡ m → ⊥) → accepted_bytes m s (delivery note piece ∷ os) ≡ accepted_bytes m (deliver s note piece).session os
  -- it is its note's own, and no other's
  pub own : own_operations note (delivery note piece ∷ os) ≡ delivery note piece ∷ own_operations note os
  pub other : (m : ℕ) → (note ≡ m → ⊥) → own_operations m (delivery note piece ∷ os) ≡ own_operations m os
  pub own_answer :
      own_answers note s (delivery note piece ∷ os) ≡ (deliver s note piece).answer ∷ own_answers note (deliver s note piece).session os
  pub other_answer :
      (m : ℕ) → (note ≡ m → ⊥) → own_answers m s (delivery note piece ∷ os) ≡ own_answers m (deliver s note piece).session os

pub record Sequencing : Type 0 where
  pub none :
      (s : Session) (note : ℕ)
      → (after s [] ≡ s) × (accepted_bytes note s [] ≡ []) × (own_operations note [] ≡ []) × (own_answers note s [] ≡ [])
  pub step : (s : Session) (note : ℕ) (piece : List ℕ) (os : List Operation) → Step s note piece os
