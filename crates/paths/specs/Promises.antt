-- What is promised of a rank's file names. All of it is proved in proofs/Proved.antt.
use Rattle.std.specs.Prelude.{ℕ, ◌+◌, ◌*◌, ◌/◌, ◌%◌, ◌≤◌, ◌<◌, ◌≡◌, List, [], ◌∷◌, ◌++◌, length}
use Rattle.texts.specs.Texts.{empty_text, text_of}
use Rattle.paths.specs.Names.{sheet_name, note_name, path_of}

pub record Promises : Type 0 where
  -- "`rank.txt`"
  pub sheet : sheet_name ≡ 0x72 ∷ 0x61 ∷ 0x6e ∷ 0x6b ∷ 0x2e ∷ 0x74 ∷ 0x78 ∷ 0x74 ∷ []
  -- "`NN.raw` (two digits)": note 5's is `05.raw`, note 32's `32.raw`
  pub note_5 : note_name 5 ≡ 0x30 ∷ 0x35 ∷ 0x2e ∷ 0x72 ∷ 0x61 ∷ 0x77 ∷ []
  pub note_32 : note_name 32 ≡ 0x33 ∷ 0x32 ∷ 0x2e ∷ 0x72 ∷ 0x61 ∷ 0x77 ∷ []
  pub two_digits :
      (tens ones : ℕ) → tens < 10 → ones < 10
      → note_name (tens * 10 + ones) ≡ (0x30 + tens) ∷ (0x30 + ones) ∷ 0x2e ∷ 0x72 ∷ 0x61 ∷ 0x77 ∷ []
  pub digits : (note : ℕ) → note_name note ≡ (0x30 + note / 10 % 10) ∷ (0x30 + note % 10) ∷ 0x2e ∷ 0x72 ∷ 0x61 ∷ 0x77 ∷ []
  -- a path: the folder's name and then the file's, all of both; and nothing where they do not fit
  pub path : (folder name : List ℕ) → length folder + length name ≤ 1024 → path_of folder name ≡ text_of (folder ++ name)
  pub no_path : (folder name : List ℕ) → 1024 < length folder + length name → path_of folder name ≡ empty_text
