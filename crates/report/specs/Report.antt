-- What the program prints: document 01, "The program".
use Rattle.std.specs.Prelude.{ℕ, zero, suc, List, [], ◌∷◌, ◌++◌, cond, eqb}
use Rattle.refusal.specs.Table.{accepted}
use Rattle.decimal.specs.Writing.{decimal}
use Rattle.slots.specs.Slots.{waiting, opened}
use Rattle.slots.specs.declared.Answer.{Answer}
use Rattle.session.specs.Operations.{ask}
use Rattle.session.specs.declared.Session.{Session}

-- "tab-parted": a tab; and the end of a line
abbrev pub tab : ℕ
tab = 0x09

abbrev pub line_end : ℕ
line_end = 0x0a

-- "word (waiting, open, shut)"
unfoldable pub word : (status : ℕ) → List ℕ
word status =
    cond (eqb status waiting) (0x77 ∷ 0x61 ∷ 0x69 ∷ 0x74 ∷ 0x69 ∷ 0x6e ∷ 0x67 ∷ [])
    (cond (eqb status opened) (0x6f ∷ 0x70 ∷ 0x65 ∷ 0x6e ∷ []) (0x73 ∷ 0x68 ∷ 0x75 ∷ 0x74 ∷ []))

-- "`refused`"
unfoldable pub refused_word : List ℕ
refused_word = 0x72 ∷ 0x65 ∷ 0x66 ∷ 0x75 ∷ 0x73 ∷ 0x65 ∷ 0x64 ∷ []

-- "note, word (waiting, open, shut), bytes taken, tab-parted"
unfoldable pub note_line : (note : ℕ) → Answer → List ℕ
note_line note a = decimal note ++ (tab ∷ []) ++ word a.status ++ (tab ∷ []) ++ decimal a.taken ++ (line_end ∷ [])

-- "For a refused sheet it prints one line: `refused`, number, line, tab-parted."
unfoldable pub refused_line : (number line : ℕ) → List ℕ
refused_line number line = refused_word ++ (tab ∷ []) ++ decimal number ++ (tab ∷ []) ++ decimal line ++ (line_end ∷ [])

-- the line of a note that is asked: none where asking is refused
unfoldable pub line_of : (note : ℕ) → Answer → List ℕ
line_of note a = cond (eqb a.number accepted) (note_line note a) []

-- "It prints for each listed note, rising": the lines of the notes 1 to n
unfoldable pub lines_to : Session → (n : ℕ) → List ℕ
lines_to s zero = []
lines_to s (suc n) = lines_to s n ++ line_of (suc n) (ask s (suc n))

-- and of all 32
unfoldable pub report : Session → List ℕ
report s = lines_to s 32
