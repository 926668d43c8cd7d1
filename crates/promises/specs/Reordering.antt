-- Reordering: the last sentence of demand 3.
use Rattle.std.specs.Prelude.{◌≡◌, List, ℕ, ◌≤◌}
use Rattle.lines.specs.declared.Entry.{Entry}
use Rattle.session.specs.Operations.{Operation}
use Rattle.session.specs.Sessions.{slot_of}
use Rattle.session.specs.declared.Session.{Session}
use Rattle.sheet.specs.Judging.{sheet_of}
use Rattle.sheet_promises.specs.Grammar.{IsSheet}
use Rattle.promises.specs.Sequences.{after, own_operations, own_answers}

-- demand 3: "Reordering deliveries of different notes, each note's own kept in order": two lists of operations with the same own
-- operations, note by note
abbrev pub Reordered : (one other : List Operation) → Type 0
Reordered one other = (note : ℕ) → own_operations note one ≡ own_operations note other

pub record Reordering : Type 0 where
  -- "changes no delivery's answer and ends in the same session", from an accepted sheet
  pub from_sheet :
      (text : List ℕ) (es : List Entry) (one other : List Operation)
      → IsSheet text es
      → Reordered one other
      → ((note : ℕ) → own_answers note (sheet_of text).session one ≡ own_answers note (sheet_of text).session other)
      × (after (sheet_of text).session one ≡ after (sheet_of text).session other)
  -- from any stored session: each answer, and each note's slot
  pub from_any :
      (s : Session) (one other : List Operation)
      → Reordered one other
      → ((note : ℕ) → own_answers note s one ≡ own_answers note s other)
      × ((note : ℕ) → 1 ≤ note → note ≤ 32 → slot_of (after s one) note ≡ slot_of (after s other) note)
  -- and the whole session at the end
  pub from_any_ends : (s : Session) (one other : List Operation) → Reordered one other → after s one ≡ after s other
