-- The three-line sheet of document 01, "The program": "`RANK 1 2`; `5 64 0 32` and 64 zeros; `9 6 0 3` and 64 zeros (blanks here stand for
-- tabs)", with the loops of 2/13: "the program's example sheet ends its loops at 31 and 2".
use Rattle.std.specs.Prelude.{ℕ, List, [], ◌∷◌, ◌++◌, replicate}
use Rattle.lines.specs.declared.Entry.{Entry}

-- 64 zeros, and the end of the line
abbrev pub zeros_and_end : List ℕ
zeros_and_end = replicate 64 0x30 ++ (10 ∷ [])

abbrev pub header : List ℕ
header = 0x52 ∷ 0x41 ∷ 0x4e ∷ 0x4b ∷ 9 ∷ 0x31 ∷ 9 ∷ 0x32 ∷ 10 ∷ []

abbrev pub line_of5 : List ℕ
line_of5 = 0x35 ∷ 9 ∷ 0x36 ∷ 0x34 ∷ 9 ∷ 0x30 ∷ 9 ∷ 0x33 ∷ 0x31 ∷ 9 ∷ zeros_and_end

abbrev pub line_of9 : List ℕ
line_of9 = 0x39 ∷ 9 ∷ 0x36 ∷ 9 ∷ 0x30 ∷ 9 ∷ 0x32 ∷ 9 ∷ zeros_and_end

unfoldable pub text : List ℕ
text = header ++ (line_of5 ++ line_of9)

-- and as document 01 prints it, its loops ending at the frame counts
abbrev pub printed_line_of5 : List ℕ
printed_line_of5 = 0x35 ∷ 9 ∷ 0x36 ∷ 0x34 ∷ 9 ∷ 0x30 ∷ 9 ∷ 0x33 ∷ 0x32 ∷ 9 ∷ zeros_and_end

abbrev pub printed_line_of9 : List ℕ
printed_line_of9 = 0x39 ∷ 9 ∷ 0x36 ∷ 9 ∷ 0x30 ∷ 9 ∷ 0x33 ∷ 9 ∷ zeros_and_end

abbrev pub printed_text : List ℕ
printed_text = header ++ (printed_line_of5 ++ printed_line_of9)

-- the two notes of the first
abbrev pub note5 : Entry
note5 = record { note = 5; sample = record { length = 64; loop_start = 0; loop_end = 31; digest = replicate 32 0 } }

abbrev pub note9 : Entry
note9 = record { note = 9; sample = record { length = 6; loop_start = 0; loop_end = 2; digest = replicate 32 0 } }

abbrev pub notes : List Entry
notes = note5 ∷ note9 ∷ []
