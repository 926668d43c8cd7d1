-- What the program's printed bytes promise, by demands 2 and 3. All of it is proved in proofs/Proved.antt.
use Rattle.std.specs.Prelude.{ℕ, ◌≤◌, ◌<◌, ◌≡◌, List, [], ◌∷◌, ◌++◌, length}
use Rattle.rules.specs.declared.Record.{Record}
use Rattle.hash.specs.Sm3.{sm3}
use Rattle.session.specs.Operations.{Operation, ask}
use Rattle.session.specs.declared.Session.{Session}
use Rattle.lines.specs.declared.Entry.{Entry}
use Rattle.sheet.specs.Judging.{sheet_of}
use Rattle.sheet_promises.specs.Grammar.{IsSheet}
use Rattle.sheet_promises.specs.Faults.{Refused}
use Rattle.sheet_promises.specs.Promises.{Among}
use Rattle.promises.specs.Sequences.{after, accepted_bytes}
use Rattle.report.specs.Report.{note_line, refused_line, line_of, report}
use Rattle.loader.specs.Loading.{Loaded, ShownOf}
use Rattle.program_promises.specs.Files.{Files}

-- the line of a listed note with record r, `bytes` being the bytes accepted for it
pub record LineTells (note : ℕ) (r : Record) (bytes line : List ℕ) : Type 0 where
  pub within : length bytes ≤ r.length
  -- "waiting" while bytes are missing
  pub waits : length bytes < r.length → line ≡ note_line note (record { number = 0; status = 1; taken = length bytes })
  -- "open" where all came and their digest is the sheet's, "shut" where it is not
  pub opens :
      length bytes ≡ r.length → sm3 bytes ≡ r.digest
      → line ≡ note_line note (record { number = 0; status = 2; taken = length bytes })
  pub shuts :
      length bytes ≡ r.length → (sm3 bytes ≡ r.digest → ⊥)
      → line ≡ note_line note (record { number = 0; status = 3; taken = length bytes })

-- the lines of a sheet's notes, in the sheet's order
unfoldable pub lines_of : Session → List Entry → List ℕ
lines_of s [] = []
lines_of s (e ∷ es) = line_of e.note (ask s e.note) ++ lines_of s es

-- what is printed of an accepted sheet: the report of a session that deliveries led to from the sheet's
pub record Told (text : List ℕ) (es : List Entry) (printed : List ℕ) : Type 0 where
  pub session : Session
  pub deliveries : List Operation
  pub reached : session ≡ after (sheet_of text).session deliveries
  pub whole : printed ≡ report session
  -- "for each listed note, rising": a line for each of the sheet's, and nothing else
  pub in_order : printed ≡ lines_of session es
  -- what each says
  pub lines :
      (e : Entry) → Among e es
      → LineTells e.note e.sample (accepted_bytes e.note (sheet_of text).session deliveries)
      (line_of e.note (ask session e.note))
  -- and no line of any other number
  pub no_line : (note : ℕ) → ((e : Entry) → Among e es → e.note ≡ note → ⊥) → line_of note (ask session note) ≡ []

pub record Promises : Type 0 where
  -- what is loaded from a folder's files, and what is shown of it
  pub files : Files
  -- the lines of a sheet's notes, one after the other
  pub no_lines : (s : Session) → lines_of s [] ≡ []
  pub more_lines : (s : Session) (e : Entry) (es : List Entry) → lines_of s (e ∷ es) ≡ line_of e.note (ask s e.note) ++ lines_of s es
  -- a session that is loaded, its counts too, is one that deliveries lead to
  pub loads : (s t : Session) → Loaded s t → (os : List Operation) × (t ≡ after s os)
  -- of a text that is a sheet, and of one that is not
  pub accepted : (text : List ℕ) (es : List Entry) (printed : List ℕ) → IsSheet text es → ShownOf text printed → Told text es printed
  pub refused :
      (text : List ℕ) (number line : ℕ) (printed : List ℕ) → Refused text number line → ShownOf text printed
      → printed ≡ refused_line number line
