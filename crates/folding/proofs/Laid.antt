-- A block's words as the code reads them, one by one into an array. Assumes nothing.
use mathlib.Core.Path.{◌≡◌, sym, ap, ap₂, ◌∙◌}
use mathlib.Core.List.{List, [], ◌∷◌, ◌++◌}
use Prim.Native.Nat.{ℕ, ◌+◌, ◌*◌, ◌<◌}
use native.Mathlib.Omega.{arith}
use native.Mathlib.Numerals.{add-one}
use lib.ListN.{length, take, drop, set}
use lib.Seq.{take-suc-set}
use Rattle.word.specs.BigEndian.{number_of}
use Rattle.standard.specs.Standard.{split}
use Rattle.standard.proofs.Expansion.{split_next}

-- one word of the block laid into an array that begins with those before it
pub word_laid : (B w : List ℕ) (j x : ℕ) → j < length w → take j w ≡ split j B → x ≡ number_of (take 4 (drop (j * 4) B))
    → take (j + 1) (set w j x) ≡ split (j + 1) B
word_laid B w j x h e ex =
    let at : j * 4 ≡ 4 * j = omega arith in
    ap (λ (n : ℕ). take n (set w j x)) (add-one j) ∙ take-suc-set w j x h
    ∙ ap₂ (λ (l : List ℕ) (y : ℕ). l ++ (y ∷ [])) e (ex ∙ ap (λ (n : ℕ). number_of (take 4 (drop n B))) at)
    ∙ sym (split_next j B) ∙ ap (λ (n : ℕ). split n B) (sym (add-one j))
