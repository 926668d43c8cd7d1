-- What the crate promises of the standard's page: the sentences that the page has and the definitions say in another way.
use Rattle.std.specs.Prelude.{◌≡◌, List, [], ◌∷◌, ◌++◌, ℕ, ◌+◌, ◌*◌, ◌-◌, ◌/◌, ◌%◌, ◌<◌, ◌≤◌, length, get_or, take, drop}
use Rattle.std.specs.Int.Bits.{bit_and, bit_or, bit_xor}
use Rattle.word.specs.Rotation.{◌⊞◌, ◌<<<◌}
use Rattle.word.specs.BigEndian.{number_of, big_endian}
use Rattle.standard.specs.declared.Words.{Words}
use Rattle.standard.specs.Standard.{◌and◌, ◌or◌, ◌xor◌, IV, T, FF, GG, P0, P1, expansion}
use Rattle.standard.specs.Standard.{W', round, round_on, rounds, xor_words, CF, iterated, folded, rest, hash_value}

-- eight words as a list
abbrev pub eight_words : Words → List ℕ
eight_words v = v.a ∷ v.b ∷ v.c ∷ v.d ∷ v.e ∷ v.f ∷ v.g ∷ v.h ∷ []

-- document 003, 3: what the page's symbols are of two words
abbrev pub Symbols : Type 0
Symbols = (x y : ℕ) → (x and y ≡ bit_and x y) × (x or y ≡ bit_or x y) × (x xor y ≡ bit_xor x y)

-- "the start words"
abbrev pub Start : Type 0
Start =
    eight_words IV ≡ 0x7380166f ∷ 0x4914b2b9 ∷ 0x172442d7 ∷ 0xda8a0600 ∷ 0xa96f30bc ∷ 0x163138aa ∷ 0xe38dee4d ∷ 0xb0fb0e4e ∷ []

-- the constants and the Boolean functions, for j in 0..15 and from 16 on
pub record Below16 (j : ℕ) : Type 0 where
  pub constant : T j ≡ 0x79cc4519
  pub ff : (X Y Z : ℕ) → FF j X Y Z ≡ bit_xor (bit_xor X Y) Z
  pub gg : (X Y Z : ℕ) → GG j X Y Z ≡ bit_xor (bit_xor X Y) Z

pub record From16 (j : ℕ) : Type 0 where
  pub constant : T j ≡ 0x7a879d8a
  pub ff : (X Y Z : ℕ) → FF j X Y Z ≡ bit_or (bit_or (bit_and X Y) (bit_and X Z)) (bit_and Y Z)
  pub gg : (X Y Z : ℕ) → GG j X Y Z ≡ bit_or (bit_and X Y) (bit_and (4294967295 - X) Z)

-- the permutations
abbrev pub Permutations : Type 0
Permutations = (X : ℕ) → (P0 X ≡ bit_xor (bit_xor X (X <<< 9)) (X <<< 17)) × (P1 X ≡ bit_xor (bit_xor X (X <<< 15)) (X <<< 23))

-- Wj of the block B
abbrev pub W : List ℕ → ℕ → ℕ
W B j = get_or (expansion B) j 0

-- a block has the words W0 .. W67
abbrev pub SixtyEight : Type 0
SixtyEight = (B : List ℕ) → length (expansion B) ≡ 68

-- "W0..W15 are the block"
abbrev pub BlockFirst : Type 0
BlockFirst = (B : List ℕ) (j : ℕ) → j < 16 → W B j ≡ number_of (take 4 (drop (4 * j) B))

-- "For j = 16..67, Wj = P1(Wj-16 xor Wj-9 xor (Wj-3 <<< 15)) xor (Wj-13 <<< 7) xor Wj-6"
abbrev pub Recurrence : Type 0
Recurrence =
    (B : List ℕ) (j : ℕ) → 16 ≤ j → j < 68
    → W B j ≡ P1 (W B (j - 16) xor W B (j - 9) xor (W B (j - 3) <<< 15)) xor (W B (j - 13) <<< 7) xor W B (j - 6)

-- a round, register by register, for any SS1, TT1 and TT2 that are what the page says
abbrev pub Round : Type 0
Round =
    (j : ℕ) (r : Words) (Wj W'j SS1 TT1 TT2 : ℕ)
    → SS1 ≡ ((r.a <<< 12) ⊞ r.e ⊞ (T j <<< (j % 32))) <<< 7
    → TT1 ≡ FF j r.a r.b r.c ⊞ r.d ⊞ bit_xor SS1 (r.a <<< 12) ⊞ W'j
    → TT2 ≡ GG j r.e r.f r.g ⊞ r.h ⊞ SS1 ⊞ Wj
    → eight_words (round j r Wj W'j) ≡ TT1 ∷ r.a ∷ (r.b <<< 9) ∷ r.c ∷ P0 TT2 ∷ r.e ∷ (r.f <<< 19) ∷ r.g ∷ []

-- round j takes Wj, and W'j = Wj xor Wj+4
abbrev pub RoundWords : Type 0
RoundWords = (B : List ℕ) (j : ℕ) (r : Words) → round_on (expansion B) j r ≡ round j r (W B j) (bit_xor (W B j) (W B (j + 4)))

-- W'j = Wj xor Wj+4, of whatever words
abbrev pub Primed : Type 0
Primed = (w : List ℕ) (j : ℕ) → W' w j ≡ bit_xor (get_or w j 0) (get_or w (j + 4) 0)

-- the registers before round 0, and after round j
abbrev pub Rounds : Type 0
Rounds = (v : Words) (w : List ℕ) (j : ℕ) → (rounds 0 v w ≡ v) × (rounds (j + 1) v w ≡ round_on w j (rounds j v w))

-- "the eight words are xored with those before the block", word by word
abbrev pub Xored : Type 0
Xored =
    (x y : Words)
    → eight_words (xor_words x y)
    ≡ bit_xor x.a y.a ∷ bit_xor x.b y.b ∷ bit_xor x.c y.c ∷ bit_xor x.d y.d
    ∷ bit_xor x.e y.e ∷ bit_xor x.f y.f ∷ bit_xor x.g y.g ∷ bit_xor x.h y.h ∷ []

-- "After 64 rounds the eight words are xored with those before the block": any rows of registers that begin with
-- those words and go on round by round end in CF. So a fold that shows its rows agrees with one that does not.
abbrev pub Traced : Type 0
Traced =
    (v : Words) (B : List ℕ) (row : ℕ → Words) → row 0 ≡ v
    → ((j : ℕ) → j < 64 → row (j + 1) ≡ round_on (expansion B) j (row j))
    → CF v B ≡ xor_words (row 64) v

-- document 003, 5.3.1: "V(i+1) = CF(V(i), B(i))"
abbrev pub Iteration : Type 0
Iteration = (i : ℕ) (v : Words) (m : List ℕ) → iterated (i + 1) v m ≡ CF (iterated i v m) (take 64 (drop (64 * i) m))

-- "all the whole blocks of the bytes", and what is left after the last of them
abbrev pub Blocks : Type 0
Blocks = (v : Words) (m : List ℕ) → (folded v m ≡ iterated (length m / 64) v m) × (rest m ≡ drop (length m / 64 * 64) m)

-- from no block at all, the words as they are
abbrev pub NoBlock : Type 0
NoBlock = (v : Words) (m : List ℕ) → iterated 0 v m ≡ v

-- 5.4: the eight words one after the other, four bytes each
abbrev pub Value : Type 0
Value = (v : Words) (j : ℕ) → j < 8 → take 4 (drop (4 * j) (hash_value v)) ≡ big_endian 4 (get_or (eight_words v) j 0)

-- and no more
abbrev pub ThirtyTwo : Type 0
ThirtyTwo = (v : Words) → length (hash_value v) ≡ 32

-- bytes that come in two pieces: what the first leaves goes before the second
abbrev pub Joining : Type 0
Joining = (v : Words) (s t : List ℕ) → folded v (s ++ t) ≡ folded (folded v s) (rest s ++ t)

pub record Promises : Type 0 where
  pub symbols : Symbols
  pub start : Start
  pub below_16 : (j : ℕ) → j < 16 → Below16 j
  pub from_16 : (j : ℕ) → 16 ≤ j → From16 j
  pub permutations : Permutations
  pub sixty_eight : SixtyEight
  pub block_first : BlockFirst
  pub recurrence : Recurrence
  pub round_is : Round
  pub round_words : RoundWords
  pub primed : Primed
  pub rounds_are : Rounds
  pub xored : Xored
  pub traced : Traced
  pub iteration : Iteration
  pub no_block : NoBlock
  pub blocks : Blocks
  pub joining : Joining
  pub value : Value
  pub thirty_two : ThirtyTwo
