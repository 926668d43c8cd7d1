-- The ring of sixteen words, turned word by word and gone by round by round. Assumes nothing.
use mathlib.Core.Path.{◌≡◌, refl, sym, ap, ap₂, ◌∙◌, subst}
use mathlib.Core.List.{List, [], ◌∷◌, ◌++◌}
use Prim.Native.Nat.{ℕ, ◌+◌, ◌-◌, ◌%◌, ◌<◌, ◌≤◌}
use native.Mathlib.Omega.{arith}
use native.Mathlib.Numerals.{add-one}
use lib.Bits.{bit_xor}
use lib.ListN.{length, get_or, take, set}
use lib.Seq.{take-suc, take-suc-set, take_all}
use Rattle.word.specs.Rotation.{◌<<<◌}
use Rattle.standard.specs.declared.Words.{Words}
use Rattle.standard.specs.Standard.{P1, split, expansion, W', round, round_on, rounds, xor_words, CF}
use Rattle.standard.specs.Promises.{W}
use Rattle.standard.proofs.Expansion.{getD_split, length_expansion, expansion_block, expansion_next}
use Rattle.standard.proofs.Rounds.{rounds_next}
use Rattle.folding.specs.Ring.{Ring, IsWord, Turned, Goes}

-- the block's own words are the ring before round 0
pub ring_first : (B w : List ℕ) → w ≡ split 16 B → Ring B 0 w
ring_first B w e =
    record {
      holds = λ k low high there. let place : k % 16 ≡ k = omega arith in
          ap₂ (λ (l : List ℕ) (i : ℕ). get_or l i 0) e place ∙ getD_split 16 k B high ∙ sym (expansion_block B k high);
    }

-- one word more, one call after the other
pub next_made : (j : ℕ) (w : List ℕ) (a p b : ℕ) → 16 ≤ j → j < 68 → a ≡ get_or w ((j - 3) % 16) 0 <<< 15
    → p ≡ P1 (bit_xor (bit_xor (get_or w ((j - 16) % 16) 0) (get_or w ((j - 9) % 16) 0)) a) → b ≡ get_or w ((j - 13) % 16) 0 <<< 7
    → IsWord j w (bit_xor (bit_xor p b) (get_or w ((j - 6) % 16) 0))
next_made j w a p b low high ea ep eb B r =
    let before : (i : ℕ) → 0 < i → i ≤ 16 → get_or w ((j - i) % 16) 0 ≡ W B (j - i) = λ i some most. r.holds (j - i) (omega arith) (omega arith) (omega arith) in
    rw (
      ep,
      ea,
      eb,
      before 16 (omega arith) (omega arith),
      before 9 (omega arith) (omega arith),
      before 3 (omega arith) (omega arith),
      before 13 (omega arith) (omega arith),
      before 6 (omega arith) (omega arith),
    ) (sym (expansion_next B j low high))

-- a round with its words out of the ring, which is turned
pub round_gone : (j : ℕ) (w w' : List ℕ) (r s : Words) → j < 64 → Turned j w w'
    → s ≡ round j r (get_or w (j % 16) 0) (bit_xor (get_or w (j % 16) 0) (get_or w ((j + 4) % 16) 0)) → Goes j (j + 1) w r w' s
unfolding round_on W'
round_gone j w w' r s h turned e B v before =
    record {
      words = turned B before.words;
      registers =
          e ∙ rw (before.words.holds j (omega arith) (omega arith) (omega arith), before.words.holds (j + 4) (omega arith) (omega arith) (omega arith), before.registers)
          (sym (rounds_next j v (expansion B)));
    }

pub goes_on : {i j k : ℕ} {a b c : List ℕ} {r s t : Words} → Goes i j a r b s → Goes j k b s c t → Goes i k a r c t
goes_on first then B v before = then B v (first B v before)

-- four rounds, or four times so many, one after the other
module _ {a b c d e : List ℕ} {r s t u v : Words} where
  pub four_gone : {i j k l m : ℕ} → Goes i j a r b s → Goes j k b s c t → Goes k l c t d u → Goes l m d u e v → Goes i m a r e v
  four_gone first second third last = goes_on (goes_on first second) (goes_on third last)

  pub next_four : (j : ℕ) → Goes j (j + 1) a r b s → Goes (j + 1) (j + 1 + 1) b s c t → Goes (j + 2) (j + 2 + 1) c t d u
      → Goes (j + 3) (j + 3 + 1) d u e v → Goes j (j + 4) a r e v
  next_four j first second third last =
      four_gone first (on (omega arith) second) (on (omega arith) third) (on (omega arith) last)
    where
      on : {i k l : ℕ} {a b : List ℕ} {r s : Words} → k ≡ l → Goes i k a r b s → Goes i l a r b s
      on {i} {k} {l} {a} {b} {r} {s} e = subst (λ (n : ℕ). Goes i n a r b s) e

-- all rounds from the block's own words
pub compressed_by : (v r s : Words) (B w w' : List ℕ) → w ≡ split 16 B → Goes 0 64 w v w' r → s ≡ xor_words r v → s ≡ CF v B
unfolding rounds CF
compressed_by v r s B w w' first goes e =
    e ∙ ap (λ (u : Words). xor_words u v) (goes B v (record { words = ring_first B w first; registers = refl })).registers

-- the words that were seen in the ring, laid into an array one by one
pub word_seen : (B w all : List ℕ) (j : ℕ) → j < 68 → length all ≡ 68 → Ring B j w → take j all ≡ take j (expansion B)
    → take (j + 1) (set all j (get_or w (j % 16) 0)) ≡ take (j + 1) (expansion B)
word_seen B w all j h size r e =
    ap (λ (n : ℕ). take n (set all j (get_or w (j % 16) 0))) (add-one j) ∙ take-suc-set all j (get_or w (j % 16) 0) (omega arith)
    ∙ ap₂ (λ (l : List ℕ) (y : ℕ). l ++ (y ∷ [])) e (r.holds j (omega arith) (omega arith) h)
    ∙ sym (ap (λ (n : ℕ). take n (expansion B)) (add-one j) ∙ take-suc (expansion B) j 0 (omega (arith, length_expansion B)))

pub all_seen : (B all : List ℕ) (j : ℕ) → j ≡ 68 → length all ≡ 68 → take j all ≡ take j (expansion B) → all ≡ expansion B
all_seen B all j last size e =
    sym (take_all j all (omega arith)) ∙ e ∙ take_all j (expansion B) (omega (arith, length_expansion B))
