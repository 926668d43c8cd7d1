-- "These must be rejected" (document 01, "How tight the promises are"): each wrong program breaks the promise that 01 names for it. And
-- 2/13: any other rule for loops allows one that plays a frame outside its sample, or no frame, or refuses one that keeps inside. And 3/13:
-- no other answer from two counts that 32 slots can have is the walk's.
use Rattle.std.specs.Prelude.{ℕ, ◌+◌, ◌/◌, ◌≤◌, ◌<◌, ◌≡◌, List, Bool, true, false}
use Rattle.rules.specs.Rules.{loop_rule}
use Rattle.rules.specs.Promises.{FrameInside, PlaysOf}
use Rattle.hash.specs.Promises.{AnyCuttingOf}
use Rattle.hash.specs.declared.Hash.{Hash}
use Rattle.hash.specs.declared.Updated.{Updated}
use Rattle.hash.specs.declared.Digest.{Digest}
use Rattle.slots.specs.Promises.{OutcomeOf}
use Rattle.slots.specs.declared.Slot.{Slot}
use Rattle.session.specs.Sessions.{slot_of}
use Rattle.session.specs.Light.{all_open, ready}
use Rattle.session.specs.Operations.{deliver, ask}
use Rattle.session.specs.Promises.{Waits, Opening, TakesOf, CountedOf}
use Rattle.session.specs.declared.Session.{Session}
use Rattle.session.specs.declared.Delivered.{Delivered}
use Rattle.sheet.specs.Judging.{sheet_of}
use Rattle.sheet.specs.declared.Sheet.{Sheet}
use Rattle.sheet_promises.specs.Grammar.{IsSheet}
use Rattle.sheet_promises.specs.Promises.{AcceptsOf, Lists}
use Rattle.promises.specs.Light.{WalksOf}
use Rattle.rejected.specs.Example.{text, printed_text, notes}
use Rattle.rejected.specs.Wrong.{RefusesSheets, RefusesPieces, constant, AlwaysShut, does_nothing, first_piece_only, invents}
use Rattle.rejected.specs.Wrong.{old_loop_rule}

-- 3/13: a session from which a delivery turns a yes into a no
pub record GoesDark (s : Session) (note : ℕ) (piece : List ℕ) : Type 0 where
  pub listed : s.listed ≡ 1
  pub opened : s.opened ≡ 1
  pub waits : Waits s note
  pub lit : ready s ≡ true
  pub dark : ready (deliver s note piece).session ≡ false

pub record Promises : Type 0 where
  -- the three-line sheet of document 01, with 2/13's loops, is a sheet, is accepted, and lists 5 and 9
  pub is_sheet : IsSheet text notes
  pub is_accepted : (sheet_of text).verdict ≡ record { number = 0; line = 0 }
  pub lists : Lists (sheet_of text).session notes
  pub waits_5 : ask (sheet_of text).session 5 ≡ record { number = 0; status = 1; taken = 0 }
  pub waits_9 : ask (sheet_of text).session 9 ≡ record { number = 0; status = 1; taken = 0 }
  -- "ends its loops at 31 and 2"; as 01 prints it, with 32 and 3, it is refused: 4, line 2
  pub ends_5 : (slot_of (sheet_of text).session 5).sample.loop_end ≡ 31
  pub ends_9 : (slot_of (sheet_of text).session 9).sample.loop_end ≡ 2
  pub printed_refused : (sheet_of printed_text).verdict ≡ record { number = 4; line = 2 }
  -- "a loader that refuses everything (the table's "exactly when", demand 2)"
  pub sheets : (reading : List ℕ → Sheet) → RefusesSheets reading → AcceptsOf reading → ⊥
  pub pieces : (delivering : Session → (note : ℕ) (piece : List ℕ) → Delivered) → RefusesPieces delivering → TakesOf delivering → ⊥
  -- "a digest that is constant", behind any update; "or a note that is always shut (demand 3 over demand 2's digest)"
  pub digest : (updating : Hash → List ℕ → Updated) (d : Digest) → AnyCuttingOf updating (constant d) → ⊥
  pub shut : (putting : Slot → List ℕ → Slot) → AlwaysShut putting → OutcomeOf putting → ⊥
  -- "an update that does nothing, or one that keeps the first piece and ignores the rest (demand 2, any cutting)", before any final
  pub nothing : (finishing : Hash → Digest) → AnyCuttingOf does_nothing finishing → ⊥
  pub first_only : (finishing : Hash → Digest) → AnyCuttingOf first_piece_only finishing → ⊥
  -- "a taken count that is invented (demand 3: it is the length of the accepted bytes)": wrong for some number of note 5's 64 bytes
  pub count : (counting : ℕ → ℕ) (bytes : ℕ) → bytes ≤ 64 → (counting bytes ≡ bytes → ⊥) → CountedOf (invents counting) → ⊥
  -- 2/13: "A loop ending at the frame count was accepted and read one frame beyond the sample"
  pub old_loops :
      (bytes start : ℕ) → start < bytes / 2
      → (old_loop_rule bytes start (bytes / 2) ≡ true) × (FrameInside (bytes / 2) bytes → ⊥)
  -- any rule that anywhere differs from "start <= end < length/2"
  pub other_loops :
      (rule : (bytes start end : ℕ) → Bool) (bytes start end : ℕ) → (rule bytes start end ≡ loop_rule bytes start end → ⊥)
      → PlaysOf rule → ⊥
  -- an old loop, its end lowered by one to its last frame, is allowed exactly where it was
  pub lowered : (bytes start last : ℕ) → loop_rule bytes start last ≡ old_loop_rule bytes start (last + 1)
  -- 3/13: an answer from the two counts that differs from "yes exactly when they are equal and not zero" at any that 32 slots can have is
  -- not the walk's: always yes, always no, yes of 0 and 0, from one of them alone. (For other numbers there is `lights` of `session`.)
  pub other_lights :
      (light : (listed opened : ℕ) → Bool) (listed opened : ℕ) → opened ≤ listed → listed ≤ 32
      → (light listed opened ≡ all_open listed opened → ⊥)
      → WalksOf (λ s. light s.listed s.opened) → ⊥
  -- "no later delivery turns a yes into a no" holds from an accepted sheet, and not from whatever counts are stored: with 1 and 1 and a
  -- note waiting, the delivery that opens it does so; and any that opens one, below 32
  pub one_and_one : (s : Session) × (note : ℕ) × (piece : List ℕ) × GoesDark s note piece
  pub goes_dark :
      (s : Session) (note : ℕ) (piece : List ℕ) → ready s ≡ true → s.opened < 32 → Opening s note piece
      → ready (deliver s note piece).session ≡ false
