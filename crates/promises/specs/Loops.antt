-- 2/13, what the rule is for: "A loop ending at the frame count was accepted and read one frame beyond the sample." Now a loop plays some
-- frame, and every one inside its sample: of the notes of an accepted sheet, and of any listed slot in order, whatever session is stored.
use Rattle.std.specs.Prelude.{ℕ, ◌+◌, ◌/◌, ◌≤◌, ◌<◌, ◌≡◌, ◌↔◌, List, [], ◌∷◌, ◌++◌, true, length}
use Rattle.rules.specs.Rules.{count_rule, note_rule, good_length}
use Rattle.rules.specs.Promises.{Obeyed, PlaysInside}
use Rattle.rules.specs.declared.Record.{Record}
use Rattle.lines.specs.declared.Entry.{Entry}
use Rattle.slots.specs.Slots.{none, slot_in_order}
use Rattle.session.specs.Sessions.{slot_of}
use Rattle.session.specs.Operations.{Operation, deliver, ask}
use Rattle.session.specs.declared.Session.{Session}
use Rattle.sheet.specs.Judging.{sheet_of}
use Rattle.sheet_promises.specs.Grammar.{IsHeader, IsLine, Lines, ObeysRules, AllObey, IsSheet}
use Rattle.sheet_promises.specs.Promises.{Among}
use Rattle.promises.specs.Sequences.{after}

-- every frame from a record's loop start to its loop end lies inside its sample, and there is one
abbrev pub LoopInside : Record → Type 0
LoopInside r = PlaysInside r.length r.loop_start r.loop_end

-- the note of the last of these lines; with none, the note before them
unfoldable pub last_note : (before : ℕ) → List Entry → ℕ
last_note before [] = before
last_note before (e ∷ es) = last_note e.note es

pub record Loops : Type 0 where
  -- "The rule becomes start <= end < length/2, in the sheet and in a slot's being in order": a line obeys the rules exactly where its note
  -- obeys rule 2 and its record is `Obeyed`, and that is what `slots.slots_in_order` asks of a slot's
  pub one_rule : (last : ℕ) (e : Entry) → ObeysRules last e ↔ ((note_rule last e.note ≡ true) × Obeyed e.sample)
  -- "the first bad one decides": behind a header and good lines, a line whose note and length are good and whose loop breaks the rule is
  -- refused: 4, and the number of that line
  pub refused :
      (header front line rest : List ℕ) (count : ℕ) (es : List Entry) (e : Entry)
      → IsHeader header count → count_rule count ≡ true
      → Lines front es → AllObey 0 es → length es < count
      → IsLine line e → note_rule (last_note 0 es) e.note ≡ true → good_length e.sample ≡ true
      → (e.sample.loop_start ≤ e.sample.loop_end → e.sample.loop_end < e.sample.length / 2 → ⊥)
      → (sheet_of (header ++ (front ++ (line ++ rest)))).verdict ≡ record { number = 4; line = length es + 2 }
  -- "From an accepted sheet, after any sequence of deliveries": of every note that its lines list
  pub listed :
      (text : List ℕ) (es : List Entry) → IsSheet text es → (e : Entry) → Among e es → (os : List Operation)
      → LoopInside (slot_of (after (sheet_of text).session os) e.note).sample
  -- of ANY stored session: of every slot in order
  pub stored : (s : Session) (note : ℕ) → slot_in_order (slot_of s note) ≡ true → LoopInside (slot_of s note).sample
  -- and so of every note that is answered to be waiting, open or shut: to who asks,
  pub asked : (s : Session) (note : ℕ) → ((ask s note).status ≡ none → ⊥) → LoopInside (slot_of s note).sample
  -- and to who delivers, whether the piece is taken or not: of the record that stands there afterwards
  pub delivered :
      (s : Session) (note : ℕ) (piece : List ℕ) → ((deliver s note piece).answer.status ≡ none → ⊥)
      → LoopInside (slot_of (deliver s note piece).session note).sample
  -- for no delivery touches a record
  pub kept : (s : Session) (os : List Operation) (note : ℕ) → (slot_of (after s os) note).sample ≡ (slot_of s note).sample
