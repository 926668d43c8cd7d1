-- What the program makes of a folder: document 01, "The program". What a file holds is not in the logic: these say what may have been
-- delivered, and what is printed of it.
use Rattle.std.specs.Prelude.{ℕ, suc, ◌≤◌, ◌<◌, ◌≡◌, List, length}
use Rattle.refusal.specs.Table.{accepted}
use Rattle.slots.specs.declared.Slot.{Slot}
use Rattle.session.specs.Sessions.{slot_of}
use Rattle.session.specs.Light.{put_counted}
use Rattle.session.specs.Operations.{deliver, ask}
use Rattle.session.specs.declared.Session.{Session}
use Rattle.sheet.specs.Judging.{sheet_of}
use Rattle.sheet.specs.declared.Sheet.{Sheet}
use Rattle.texts.specs.Texts.{said}
use Rattle.texts.specs.declared.Text.{Text}
use Rattle.report.specs.Report.{refused_line, report}

-- "in full pieces of 4,096 bytes": the sessions that are reached by such pieces to one note, each of them accepted
pub data FedWhole (note : ℕ) (s : Session) : Session → Type 0 where
  begun : FedWhole note s s
  whole :
      {t : Session} → FedWhole note s t → (piece : List ℕ) → length piece ≡ 4096 → (deliver t note piece).answer.number ≡ accepted
      → FedWhole note s (deliver t note piece).session

-- "the last one shorter", and not empty
pub data Fed (note : ℕ) (s : Session) : Session → Type 0 where
  even : {t : Session} → FedWhole note s t → Fed note s t
  shorter :
      {t : Session} → FedWhole note s t → (piece : List ℕ) → 1 ≤ length piece → length piece < 4096
      → (deliver t note piece).answer.number ≡ accepted
      → Fed note s (deliver t note piece).session

-- "for each listed note the file": a listed note is fed, and another leaves the session as it is
pub data NoteLoaded (note : ℕ) (s : Session) : Session → Type 0 where
  listed : {t : Session} → (ask s note).number ≡ accepted → Fed note s t → NoteLoaded note s t
  passed : ((ask s note).number ≡ accepted → ⊥) → NoteLoaded note s s

-- the notes 1 to n in turn
pub data LoadedTo (s : Session) : (n : ℕ) → Session → Type 0 where
  none : LoadedTo s 0 s
  next : {n : ℕ} {t u : Session} → LoadedTo s n t → NoteLoaded (suc n) t u → LoadedTo s (suc n) u

-- all 32
abbrev pub Loaded : Session → Session → Type 0
Loaded s t = LoadedTo s 32 t

-- something that goes from one session to another, done to a note's slot: whatever session the slot stands in. The open count goes by this
-- slot's status before and after
abbrev pub OfSlot : (Session → Session → Type 0) → (note : ℕ) → Slot → Slot → Type 0
OfSlot goes note slot after = (s : Session) → length s.slots ≡ 32 → slot_of s note ≡ slot → goes s (put_counted s note after)

-- "It reads `rank.txt` (first 4,096 bytes)": the sheet of some text of at most so many
pub record SheetRead (sheet : Sheet) : Type 0 where
  pub text : List ℕ
  pub first : length text ≤ 4096
  pub read : sheet ≡ sheet_of text

-- what is printed: "For a refused sheet it prints one line", and else the report of a session that was loaded from the sheet's
pub data ShownOf (text : List ℕ) : (printed : List ℕ) → Type 0 where
  refused :
      ((sheet_of text).verdict.number ≡ accepted → ⊥)
      → ShownOf text (refused_line (sheet_of text).verdict.number (sheet_of text).verdict.line)
  loaded :
      {s : Session} → (sheet_of text).verdict.number ≡ accepted → Loaded (sheet_of text).session s
      → ShownOf text (report s)

-- a text that says this of some sheet of at most 4,096 bytes, and that ends within its room: all of it can be written out
pub record Shown (t : Text) : Type 0 where
  pub text : List ℕ
  pub first : length text ≤ 4096
  pub shows : ShownOf text (said t)
  pub within : t.length ≤ length t.bytes
