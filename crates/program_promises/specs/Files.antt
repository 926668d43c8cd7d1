-- Document 01, "The program": what it means that a folder's files are loaded and shown, step by step. What a file holds is not in the
-- logic.
use Rattle.std.specs.Prelude.{ℕ, suc, ◌≤◌, ◌<◌, ◌≡◌, ◌↔◌, ◌⊎◌, List, length}
use Rattle.session.specs.Operations.{deliver, ask}
use Rattle.session.specs.declared.Session.{Session}
use Rattle.sheet.specs.Judging.{sheet_of}
use Rattle.texts.specs.Texts.{said}
use Rattle.texts.specs.declared.Text.{Text}
use Rattle.report.specs.Report.{refused_line, report}
use Rattle.loader.specs.Loading.{FedWhole, Fed, NoteLoaded, LoadedTo, Loaded, ShownOf, Shown}

pub record Files : Type 0 where
  -- "in full pieces of 4,096 bytes": none, or one more that is accepted
  pub fed_whole :
      (note : ℕ) (s t : Session)
      → FedWhole note s t
      ↔ ((t ≡ s)
      ⊎ ((u : Session) × (piece : List ℕ)
      × FedWhole note s u × (length piece ≡ 4096) × ((deliver u note piece).answer.number ≡ 0) × (t ≡ (deliver u note piece).session)))
  -- "the last one shorter": those alone, or a last one of 1 to 4,095 bytes that is accepted
  pub fed :
      (note : ℕ) (s t : Session)
      → Fed note s t
      ↔ (FedWhole note s t
      ⊎ ((u : Session) × (piece : List ℕ)
      × FedWhole note s u × (1 ≤ length piece) × (length piece < 4096)
      × ((deliver u note piece).answer.number ≡ 0) × (t ≡ (deliver u note piece).session)))
  -- "for each listed note the file": and no other note's
  pub note_loaded :
      (note : ℕ) (s t : Session)
      → NoteLoaded note s t ↔ ((((ask s note).number ≡ 0) × Fed note s t) ⊎ (((ask s note).number ≡ 0 → ⊥) × (t ≡ s)))
  -- the notes 1 to 32, rising
  pub loaded_none : (s t : Session) → LoadedTo s 0 t ↔ (t ≡ s)
  pub loaded_next : (s u : Session) (n : ℕ) → LoadedTo s (suc n) u ↔ ((t : Session) × LoadedTo s n t × NoteLoaded (suc n) t u)
  pub loaded_all : (s t : Session) → Loaded s t ↔ LoadedTo s 32 t
  -- "For a refused sheet it prints one line", and else the report of the session that was loaded from the sheet's
  pub shown_of :
      (text printed : List ℕ)
      → ShownOf text printed
      ↔ ((((sheet_of text).verdict.number ≡ 0 → ⊥) × (printed ≡ refused_line (sheet_of text).verdict.number (sheet_of text).verdict.line))
      ⊎ ((s : Session) × ((sheet_of text).verdict.number ≡ 0) × Loaded (sheet_of text).session s × (printed ≡ report s)))
  -- "(first 4,096 bytes)": what is printed is shown of some text of at most so many, and all of it can be written out
  pub shown :
      (t : Text) → Shown t ↔ ((text : List ℕ) × (length text ≤ 4096) × ShownOf text (said t) × (t.length ≤ length t.bytes))
