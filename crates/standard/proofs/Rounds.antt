-- The rounds one after the other. Assumes nothing.
use mathlib.Core.Path.{◌≡◌, sym, ap, ◌∙◌}
use mathlib.Core.List.{List}
use Prim.Native.Nat.{ℕ, zero, suc, ◌+◌, ◌%◌, ◌<◌, ◌≤◌}
use lib.Bits.{bit_xor}
use native.Mathlib.Omega.{arith}
use native.Mathlib.Numerals.{add-one}
use Rattle.word.specs.Rotation.{◌⊞◌, ◌<<<◌}
use Rattle.standard.specs.declared.Words.{Words}
use Rattle.standard.specs.Standard.{T, FF, GG, P0, round, round_on, rounds, expansion, xor_words, CF}

-- a round as the code makes it, one call after the other
pub round_made : (j : ℕ) (r : Words) (w w1 a12 x1 k x2 ss1 f y1 y2 tt1 g z1 z2 tt2 b9 e f19 : ℕ)
    → a12 ≡ r.a <<< 12 → x1 ≡ a12 ⊞ r.e → k ≡ T j <<< (j % 32) → x2 ≡ x1 ⊞ k → ss1 ≡ x2 <<< 7
    → f ≡ FF j r.a r.b r.c → y1 ≡ f ⊞ r.d → y2 ≡ y1 ⊞ bit_xor ss1 a12 → tt1 ≡ y2 ⊞ w1
    → g ≡ GG j r.e r.f r.g → z1 ≡ g ⊞ r.h → z2 ≡ z1 ⊞ ss1 → tt2 ≡ z2 ⊞ w
    → b9 ≡ r.b <<< 9 → e ≡ P0 tt2 → f19 ≡ r.f <<< 19
    → record { a = tt1; b = r.a; c = b9; d = r.c; e = e; f = r.e; g = f19; h = r.g } ≡ round j r w w1
unfolding round
round_made j r w w1 a12 x1 k x2 ss1 f y1 y2 tt1 g z1 z2 tt2 b9 e f19 h1 h2 h3 h4 h5 h6 h7 h8 h9 h10 h11 h12 h13 h14 h15 h16 =
    rw (h9, h8, h7, h6, h15, h13, h12, h11, h10, h5, h4, h3, h2, h1, h14, h16)

-- one round more
pub rounds_next : (j : ℕ) (v : Words) (W : List ℕ) → rounds (j + 1) v W ≡ round_on W j (rounds j v W)
unfolding rounds
rounds_next j v W = ap (λ (n : ℕ). rounds n v W) (add-one j)

-- any rows that begin with v and go on round by round are the registers
pub rows_are_rounds : (v : Words) (W : List ℕ) (row : ℕ → Words) → row 0 ≡ v → ((j : ℕ) → j < 64 → row (j + 1) ≡ round_on W j (row j))
    → (n : ℕ) → n ≤ 64 → row n ≡ rounds n v W
unfolding rounds
rows_are_rounds v W row e next zero h = e
rows_are_rounds v W row e next (suc n) h =
    ap row (sym (add-one n)) ∙ next n h ∙ ap (round_on W n) (rows_are_rounds v W row e next n (omega arith))

pub traced : (v : Words) (B : List ℕ) (row : ℕ → Words) → row 0 ≡ v → ((j : ℕ) → j < 64 → row (j + 1) ≡ round_on (expansion B) j (row j))
    → CF v B ≡ xor_words (row 64) v
unfolding CF
traced v B row e next = ap (λ (r : Words). xor_words r v) (sym (rows_are_rounds v (expansion B) row e next 64 (omega arith)))
