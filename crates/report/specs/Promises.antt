-- What is promised of what the program prints. All of it is proved in proofs/Proved.antt.
use Rattle.std.specs.Prelude.{ℕ, suc, ◌^◌, ◌≤◌, ◌<◌, ◌≡◌, [], ◌∷◌, ◌++◌, length}
use Rattle.texts.specs.Texts.{text_of, said}
use Rattle.decimal.specs.Writing.{decimal}
use Rattle.slots.specs.declared.Answer.{Answer}
use Rattle.session.specs.Operations.{ask}
use Rattle.session.specs.declared.Session.{Session}
use Rattle.report.specs.Report.{word, note_line, refused_line, line_of, lines_to, report}

-- the counts of a session as the code has it are numbers of 64 bits
abbrev pub Counted : Session → Type 0
Counted s = (note : ℕ) → 1 ≤ note → note ≤ 32 → (ask s note).taken < 2 ^ 64

pub record Promises : Type 0 where
  -- "word (waiting, open, shut)", for the statuses 1, 2 and 3
  pub word_waiting : word 1 ≡ 0x77 ∷ 0x61 ∷ 0x69 ∷ 0x74 ∷ 0x69 ∷ 0x6e ∷ 0x67 ∷ []
  pub word_open : word 2 ≡ 0x6f ∷ 0x70 ∷ 0x65 ∷ 0x6e ∷ []
  pub word_shut : word 3 ≡ 0x73 ∷ 0x68 ∷ 0x75 ∷ 0x74 ∷ []
  -- and for any other, which no answer of a call has
  pub word_other : (status : ℕ) → (status ≡ 1 → ⊥) → (status ≡ 2 → ⊥) → word status ≡ 0x73 ∷ 0x68 ∷ 0x75 ∷ 0x74 ∷ []
  -- note 5 open with 8820 bytes: `5`, `open`, `8820`, a tab between fields
  pub open_line :
      note_line 5 (record { number = 0; status = 2; taken = 8820 })
      ≡ 0x35 ∷ 0x09 ∷ 0x6f ∷ 0x70 ∷ 0x65 ∷ 0x6e ∷ 0x09 ∷ 0x38 ∷ 0x38 ∷ 0x32 ∷ 0x30 ∷ 0x0a ∷ []
  -- the lines of document 01's example: `5`, `shut`, `64`; `9`, `waiting`, `4`
  pub shut_line :
      note_line 5 (record { number = 0; status = 3; taken = 64 })
      ≡ 0x35 ∷ 0x09 ∷ 0x73 ∷ 0x68 ∷ 0x75 ∷ 0x74 ∷ 0x09 ∷ 0x36 ∷ 0x34 ∷ 0x0a ∷ []
  pub waiting_line :
      note_line 9 (record { number = 0; status = 1; taken = 4 })
      ≡ 0x39 ∷ 0x09 ∷ 0x77 ∷ 0x61 ∷ 0x69 ∷ 0x74 ∷ 0x69 ∷ 0x6e ∷ 0x67 ∷ 0x09 ∷ 0x34 ∷ 0x0a ∷ []
  -- a sheet refused by 2 at line 13: `refused`, `2`, `13`
  pub refused_line_lem :
      refused_line 2 13
      ≡ 0x72 ∷ 0x65 ∷ 0x66 ∷ 0x75 ∷ 0x73 ∷ 0x65 ∷ 0x64 ∷ 0x09 ∷ 0x32 ∷ 0x09 ∷ 0x31 ∷ 0x33 ∷ 0x0a ∷ []
  -- any line: the fields and what parts them
  pub note_fields :
      (note : ℕ) (a : Answer)
      → note_line note a ≡ decimal note ++ (0x09 ∷ []) ++ word a.status ++ (0x09 ∷ []) ++ decimal a.taken ++ (0x0a ∷ [])
  pub refused_fields :
      (number line : ℕ)
      → refused_line number line
      ≡ (0x72 ∷ 0x65 ∷ 0x66 ∷ 0x75 ∷ 0x73 ∷ 0x65 ∷ 0x64 ∷ []) ++ (0x09 ∷ []) ++ decimal number ++ (0x09 ∷ []) ++ decimal line ++ (0x0a ∷ [])
  -- "for each listed note, rising": a line where asking is accepted, none where it is refused, and the next note's behind it
  pub listed : (note : ℕ) (a : Answer) → a.number ≡ 0 → line_of note a ≡ note_line note a
  pub not_listed : (note : ℕ) (a : Answer) → (a.number ≡ 0 → ⊥) → line_of note a ≡ []
  pub begins : (s : Session) → lines_to s 0 ≡ []
  pub rising : (s : Session) (n : ℕ) → lines_to s (suc n) ≡ lines_to s n ++ line_of (suc n) (ask s (suc n))
  pub whole : (s : Session) → report s ≡ lines_to s 32
  -- nothing is left out: the lines of all notes fit, and a text says them
  pub fits : (s : Session) → Counted s → length (report s) ≤ 1024
  pub said_whole : (s : Session) → said (text_of (report s)) ≡ report s
  pub said_refused : (number line : ℕ) → said (text_of (refused_line number line)) ≡ refused_line number line
