-- A rank sheet as text: document 01, "The rank sheet". "Text lines, each ended by LF (10), fields parted by one tab (9)."
use Rattle.std.specs.Prelude.{ℕ, ◌/◌, ◌%◌, List, [], ◌∷◌, ◌++◌, length}
use Rattle.decimal.specs.Writing.{decimal}
use Rattle.hex_digits.specs.Digits.{letter_of}
use Rattle.lines.specs.Reading.{tab, lf}
use Rattle.lines.specs.Lines.{edition1}
use Rattle.lines.specs.declared.Entry.{Entry}

-- a number and the byte that ends its field
unfoldable pub field_text : (value ending : ℕ) → List ℕ
field_text value ending = decimal value ++ (ending ∷ [])

-- "A digest is 64 characters of 0-9 and a-f": two for each byte, with small letters
unfoldable pub digest_text : (bytes : List ℕ) → List ℕ
digest_text [] = []
digest_text (byte ∷ bytes) = letter_of (byte / 16) ∷ letter_of (byte % 16) ∷ digest_text bytes

-- "note, length in bytes, loop start, loop end (frames), digest"
unfoldable pub line_text : Entry → List ℕ
line_text e =
    field_text e.note tab
    ++ (field_text e.sample.length tab
    ++ (field_text e.sample.loop_start tab
    ++ (field_text e.sample.loop_end tab ++ (digest_text e.sample.digest ++ (lf ∷ [])))))

-- "Line 1: `RANK`, `1`, and the number of notes n"
unfoldable pub header_text : (count : ℕ) → List ℕ
header_text count = 0x52 ∷ 0x41 ∷ 0x4e ∷ 0x4b ∷ tab ∷ edition1 ∷ tab ∷ field_text count lf

-- "Then n lines"
unfoldable pub lines_text : List Entry → List ℕ
lines_text [] = []
lines_text (e ∷ es) = line_text e ++ lines_text es

-- the sheet of these notes
unfoldable pub sheet_text : List Entry → List ℕ
sheet_text es = header_text (length es) ++ lines_text es
