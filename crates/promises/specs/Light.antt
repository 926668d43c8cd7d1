-- The rank-ready light: 3/13. "The answer equals the full walk over the slots after any sequence of calls from an accepted sheet, and no
-- later delivery turns a yes into a no." Of the calls deliveries alone change a session: asking, the light and writing only read it, and
-- reading a sheet begins anew.
use Rattle.std.specs.Prelude.{ℕ, suc, ◌+◌, ◌≡◌, ◌↔◌, List, [], ◌∷◌, Bool, true, false, cond, not, ◌&&◌, ◌||◌, eqb, length}
use Rattle.refusal.specs.Table.{accepted}
use Rattle.lines.specs.declared.Entry.{Entry}
use Rattle.slots.specs.Slots.{none, opened}
use Rattle.slots.specs.declared.Slot.{Slot}
use Rattle.session.specs.Sessions.{slot_of}
use Rattle.session.specs.Light.{ready}
use Rattle.session.specs.Operations.{Operation, deliver, ask}
use Rattle.session.specs.Promises.{Listed}
use Rattle.session.specs.declared.Session.{Session}
use Rattle.sheet.specs.Judging.{sheet_of}
use Rattle.sheet_promises.specs.Grammar.{IsSheet}
use Rattle.sheet_promises.specs.Promises.{Among}
use Rattle.promises.specs.Sequences.{after}

-- document 01: "A slot is unlisted exactly when its status is 0"; "a status (0 none, 1 waiting, 2 open, 3 shut)"
unfoldable pub slot_listed : Slot → Bool
slot_listed slot = not (eqb slot.status none)

unfoldable pub slot_open : Slot → Bool
slot_open slot = eqb slot.status opened

-- "the full walk over the slots", with no count in it, by their status alone: at least one is listed,
unfoldable pub some_listed : List Slot → Bool
some_listed [] = false
some_listed (slot ∷ slots) = slot_listed slot || some_listed slots

-- and every listed one is open
unfoldable pub listed_open : List Slot → Bool
listed_open [] = true
listed_open (slot ∷ slots) = (not (slot_listed slot) || slot_open slot) && listed_open slots

unfoldable pub walk : Session → Bool
walk s = some_listed s.slots && listed_open s.slots

-- the same in words
pub record RankReady (s : Session) : Type 0 where
  pub some : (note : ℕ) × Listed s note
  pub every : (note : ℕ) → Listed s note → (slot_of s note).status ≡ 2

-- "how many notes are listed and how many are open": how many of the slots are so
unfoldable pub how_many : (test : Slot → Bool) → List Slot → ℕ
how_many test [] = 0
how_many test (slot ∷ slots) = cond (test slot) (suc (how_many test slots)) (how_many test slots)

-- a session whose two counts are those of its slots
pub record CountsFit (s : Session) : Type 0 where
  pub slots : length s.slots ≡ 32
  pub listed : s.listed ≡ how_many slot_listed s.slots
  pub opened : s.opened ≡ how_many slot_open s.slots

-- the walk's answer, wherever the counts are those of the slots: of any light
abbrev pub WalksOf : (light : Session → Bool) → Type 0
WalksOf light = (s : Session) → CountsFit s → light s ≡ walk s

-- what the words above mean
pub record Counting (test : Slot → Bool) (slot : Slot) (slots : List Slot) : Type 0 where
  pub of_none : how_many test [] ≡ 0
  pub one_more : test slot ≡ true → how_many test (slot ∷ slots) ≡ how_many test slots + 1
  pub not_this : test slot ≡ false → how_many test (slot ∷ slots) ≡ how_many test slots
  pub is_listed_lem : (slot_listed slot ≡ true) ↔ (slot.status ≡ 0 → ⊥)
  pub is_open : (slot_open slot ≡ true) ↔ (slot.status ≡ 2)

pub record Light : Type 0 where
  -- the walk says what its words say, and counting is counting
  pub walks : (s : Session) → length s.slots ≡ 32 → (walk s ≡ true) ↔ RankReady s
  pub counting : (test : Slot → Bool) (slot : Slot) (slots : List Slot) → Counting test slot slots
  -- "after any sequence of calls from an accepted sheet" the counts are those of the slots, and as many are listed as the sheet has lines
  pub counts : (text : List ℕ) (es : List Entry) → IsSheet text es → (os : List Operation) → CountsFit (after (sheet_of text).session os)
  pub lines :
      (text : List ℕ) (es : List Entry) → IsSheet text es → (os : List Operation) → (after (sheet_of text).session os).listed ≡ length es
  -- "The answer equals the full walk over the slots"
  pub same : (text : List ℕ) (es : List Entry) → IsSheet text es → (os : List Operation)
      → ready (after (sheet_of text).session os) ≡ walk (after (sheet_of text).session os)
  -- which is what the curator asks: whether every note of the sheet is answered to be open
  pub every_note :
      (text : List ℕ) (es : List Entry) → IsSheet text es → (os : List Operation)
      → (ready (after (sheet_of text).session os) ≡ true)
      ↔ ((e : Entry) → Among e es → (ask (after (sheet_of text).session os) e.note).status ≡ 2)
  -- "and no later delivery turns a yes into a no"
  pub stays :
      (text : List ℕ) (es : List Entry) → IsSheet text es → (os later : List Operation)
      → ready (after (sheet_of text).session os) ≡ true → ready (after (after (sheet_of text).session os) later) ≡ true
  -- the same of ANY stored session whose counts are those of its slots: every delivery keeps that, the answer is the walk's, and after a
  -- yes every delivery is refused
  pub kept : (s : Session) (os : List Operation) → CountsFit s → CountsFit (after s os)
  pub fits_walk : WalksOf ready
  pub fits_stays : (s : Session) (os : List Operation) → CountsFit s → ready s ≡ true → ready (after s os) ≡ true
  pub refused :
      (s : Session) (note : ℕ) (piece : List ℕ) → CountsFit s → ready s ≡ true
      → ((deliver s note piece).answer.number ≡ accepted → ⊥) × ((deliver s note piece).session ≡ s)
  -- "A refused sheet has both 0", and its light is out
  pub refused_sheet :
      (text : List ℕ) → ((sheet_of text).verdict.number ≡ accepted → ⊥)
      → ((sheet_of text).session.listed ≡ 0) × ((sheet_of text).session.opened ≡ 0) × (ready (sheet_of text).session ≡ false)
