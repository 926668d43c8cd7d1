-- The expansion as a list that grows: what stands in it, and one word more. Assumes nothing.
use mathlib.Core.Path.{◌≡◌, refl, sym, ap, ap₂, ◌∙◌}
use mathlib.Core.List.{List, [], ◌∷◌, ◌++◌}
use Prim.Native.Nat.{ℕ, zero, suc, ◌+◌, ◌*◌, ◌-◌, ◌<◌, ◌≤◌}
use native.Mathlib.Nat.{add-suc, add-zero}
use native.Mathlib.Omega.{arith}
use native.Mathlib.Numerals.{add-one}
use lib.Bits.{bit_xor}
use lib.ListN.{length, get_or, take, drop, length-append}
use lib.Seq.{drop-drop, get_or-take, get_or_at, take-append-le, take_all, length-take-le}
use Rattle.word.specs.Rotation.{◌<<<◌}
use Rattle.word.specs.BigEndian.{number_of}
use Rattle.standard.specs.Standard.{split, next_word, extended, expansion, P1}

-- the j-th four bytes of a block, as a word
abbrev pub word_at : List ℕ → ℕ → ℕ
word_at B j = number_of (take 4 (drop (4 * j) B))

-- one word more of a block
pub split_next : (n : ℕ) (B : List ℕ) → split (suc n) B ≡ split n B ++ (word_at B n ∷ [])
unfolding split
split_next zero B = refl
split_next (suc n) B =
    let further : 4 + 4 * n ≡ 4 * suc n = omega arith in
    ap (λ (l : List ℕ). number_of (take 4 B) ∷ l) (split_next n (drop 4 B))
    ∙ ap (λ (l : List ℕ). number_of (take 4 B) ∷ (split n (drop 4 B) ++ (number_of (take 4 l) ∷ []))) (drop-drop (4 * n) 4 B ∙ ap (λ (k : ℕ). drop k B) further)

pub length_split : (n : ℕ) (B : List ℕ) → length (split n B) ≡ n
unfolding split
length_split zero B = refl
length_split (suc n) B = ap suc (length_split n (drop 4 B))

pub length_extended : (n : ℕ) (W : List ℕ) → length (extended n W) ≡ length W + n
unfolding extended
length_extended zero W = sym (add-zero (length W))
length_extended (suc n) W =
    length-append (extended n W) (next_word (extended n W) ∷ []) ∙ add-one (length (extended n W)) ∙ ap suc (length_extended n W) ∙ sym (add-suc (length W) n)

pub length_expansion : (B : List ℕ) → length (expansion B) ≡ 68
unfolding expansion
length_expansion B = length_extended 52 (split 16 B) ∙ ap (λ (n : ℕ). n + 52) (length_split 16 B)

-- the j-th word from the words before it, as the standard writes it
abbrev pub recurrence : List ℕ → ℕ → ℕ
recurrence W j =
    bit_xor (bit_xor (P1 (bit_xor (bit_xor (get_or W (j - 16) 0) (get_or W (j - 9) 0)) (get_or W (j - 3) 0 <<< 15))) (get_or W (j - 13) 0 <<< 7)) (get_or W (j - 6) 0)

-- where the words before the j-th are the first j of a list
pub next_of_take : (w : List ℕ) (j : ℕ) → 16 ≤ j → j ≤ length w → next_word (take j w) ≡ recurrence w j
unfolding next_word
next_of_take w j h k =
    rw (
      length-take-le j w k,
      get_or-take j w (j - 16) 0 (omega arith),
      get_or-take j w (j - 9) 0 (omega arith),
      get_or-take j w (j - 3) 0 (omega arith),
      get_or-take j w (j - 13) 0 (omega arith),
      get_or-take j w (j - 6) 0 (omega arith),
    )

extended_begins : (n k : ℕ) (W : List ℕ) → take (length W + n) (extended (n + k) W) ≡ extended n W
unfolding extended
extended_begins n zero W =
    let fits : length (extended n W) ≤ length W + n = omega (arith, length_extended n W) in
    ap (λ (m : ℕ). take (length W + n) (extended m W)) (add-zero n) ∙ take_all (length W + n) (extended n W) fits
extended_begins n (suc k) W =
    let fits : length W + n ≤ length (extended (n + k) W) = omega (arith, length_extended (n + k) W) in
    ap (λ (m : ℕ). take (length W + n) (extended m W)) (add-suc n k)
    ∙ take-append-le (length W + n) (extended (n + k) W) (next_word (extended (n + k) W) ∷ []) fits ∙ extended_begins n k W

-- the first j words of the expansion, where these are at least the block's
expansion_begins : (B : List ℕ) (n : ℕ) → n ≤ 52 → take (16 + n) (expansion B) ≡ extended n (split 16 B)
unfolding expansion
expansion_begins B n h =
    let rest : n + (52 - n) ≡ 52 = omega arith in
    ap₂ (λ (a b : ℕ). take (a + n) (extended b (split 16 B))) (sym (length_split 16 B)) (sym rest) ∙ extended_begins n (52 - n) (split 16 B)

pub getD_split : (n j : ℕ) (B : List ℕ) → j < n → get_or (split n B) j 0 ≡ word_at B j
unfolding split
getD_split zero j B h = absurd (omega arith)
getD_split (suc n) zero B h = refl
getD_split (suc n) (suc j) B h =
    let further : 4 + 4 * j ≡ 4 * suc j = omega arith in
    getD_split n j (drop 4 B) (omega arith) ∙ ap (λ (l : List ℕ). number_of (take 4 l)) (drop-drop (4 * j) 4 B ∙ ap (λ (k : ℕ). drop k B) further)

-- W0 .. W15 are the block
pub expansion_block : (B : List ℕ) (j : ℕ) → j < 16 → get_or (expansion B) j 0 ≡ word_at B j
unfolding extended
expansion_block B j h =
    sym (get_or-take 16 (expansion B) j 0 h) ∙ ap (λ (l : List ℕ). get_or l j 0) (expansion_begins B 0 (omega arith)) ∙ getD_split 16 j B h

-- the standard's recurrence holds in the whole expansion
pub expansion_next : (B : List ℕ) (j : ℕ) → 16 ≤ j → j < 68 → get_or (expansion B) j 0 ≡ recurrence (expansion B) j
unfolding extended
expansion_next B j h k =
    let n : ℕ = j - 16 in
    let up_to : 16 + n ≡ j = omega arith in
    let over : 16 + suc n ≡ suc j = omega arith in
    let size : length (extended n (split 16 B)) ≡ j = omega (arith, length_extended n (split 16 B), length_split 16 B) in
    sym (get_or-take (suc j) (expansion B) j 0 (omega arith))
    ∙ ap (λ (m : ℕ). get_or (take m (expansion B)) j 0) (sym over)
    ∙ ap (λ (l : List ℕ). get_or l j 0) (expansion_begins B (suc n) (omega arith))
    ∙ get_or_at (extended n (split 16 B)) (next_word (extended n (split 16 B))) [] 0 j size
    ∙ ap next_word (sym (expansion_begins B n (omega arith)) ∙ ap (λ (m : ℕ). take m (expansion B)) up_to)
    ∙ next_of_take (expansion B) j h (omega (arith, length_expansion B))
