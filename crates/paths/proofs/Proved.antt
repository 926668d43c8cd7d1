-- The crate's promises, proved. Assumes nothing.
use Prim.Native.Nat.{ℕ, ◌+◌, ◌*◌, ◌/◌, ◌%◌, ◌≤◌, ◌<◌}
use mathlib.Core.Path.{◌≡◌, refl}
use mathlib.Core.List.{List, [], ◌∷◌, ◌++◌}
use native.Mathlib.Omega.{arith}
use lib.ListN.{length, length-append}
use Rattle.texts.specs.Texts.{empty_text, text_of}
use Rattle.texts.specs.declared.Text.{Text}
use Rattle.texts.proofs.Parts.{of_none, part_not, joined, sound_empty, sound_part, sound_within}
use Rattle.paths.specs.Names.{sheet_name, note_name, path_of}
use Rattle.paths.specs.Promises.{Promises}

digits : (tens ones : ℕ) → tens < 10 → ones < 10
    → note_name (tens * 10 + ones) ≡ (0x30 + tens) ∷ (0x30 + ones) ∷ 0x2e ∷ 0x72 ∷ 0x61 ∷ 0x77 ∷ []
unfolding note_name
digits tens ones t o =
    let high : (tens * 10 + ones) / 10 % 10 ≡ tens = omega arith in
    let low : (tens * 10 + ones) % 10 ≡ ones = omega arith in
    rw (high, low)

-- what does not fit is the empty text
pub empty_path : (folder name : List ℕ) → 1024 < length folder + length name → path_of folder name ≡ empty_text
unfolding path_of empty_text
empty_path folder name past = part_not empty_text (folder ++ name) (omega (arith, length-append folder name))

-- a path ends within its room
pub path_within : (t : Text) (folder name : List ℕ) → t ≡ path_of folder name → t.length ≤ length t.bytes
unfolding path_of
path_within t folder name e = sound_within t (rw e (sound_part empty_text (folder ++ name) sound_empty))

-- what fits is both
pub both_path : (folder name : List ℕ) → length folder + length name ≤ 1024 → path_of folder name ≡ text_of (folder ++ name)
unfolding path_of
both_path folder name fits = rw (← of_none) (joined [] (folder ++ name) (omega (arith, length-append folder name)))

pub proved : Promises
unfolding sheet_name note_name
proved =
    record {
      sheet = refl;
      note_5 = refl;
      note_32 = refl;
      two_digits = digits;
      digits = λ note. refl;
      path = both_path;
      no_path = empty_path;
    }
