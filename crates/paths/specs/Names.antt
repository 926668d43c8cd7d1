-- The names of a rank's files: document 01, "The program".
use Rattle.std.specs.Prelude.{ℕ, ◌+◌, ◌/◌, ◌%◌, List, [], ◌∷◌, ◌++◌}
use Rattle.texts.specs.Texts.{empty_text, with_part}
use Rattle.texts.specs.declared.Text.{Text}

-- "`rank.txt`"
unfoldable pub sheet_name : List ℕ
sheet_name = 0x72 ∷ 0x61 ∷ 0x6e ∷ 0x6b ∷ 0x2e ∷ 0x74 ∷ 0x78 ∷ 0x74 ∷ []

-- "the file `NN.raw` (two digits)"
unfoldable pub note_name : (note : ℕ) → List ℕ
note_name note = (0x30 + note / 10 % 10) ∷ (0x30 + note % 10) ∷ 0x2e ∷ 0x72 ∷ 0x61 ∷ 0x77 ∷ []

-- a file's name behind its folder's; the empty path where they do not fit
unfoldable pub path_of : (folder name : List ℕ) → Text
path_of folder name = with_part empty_text (folder ++ name)
