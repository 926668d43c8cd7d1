-- 02, 5/13: "Keep only sixteen words and work out each next one over the oldest, with W'j formed when a round needs it." What the sixteen
-- are, round by round; W'j is not kept, a round forms it (`step`). The private functions are held to this; what folding promises is the
-- standard's page, where all 68 words stand in a list.
use Rattle.std.specs.Prelude.{◌≡◌, List, ℕ, ◌+◌, ◌-◌, ◌%◌, ◌<◌, ◌≤◌, get_or}
use Rattle.standard.specs.declared.Words.{Words}
use Rattle.standard.specs.Standard.{expansion, rounds}
use Rattle.standard.specs.Promises.{W}

-- w is the ring before round j: it holds Wj .. Wj+15 of the block B, as far as W67, and Wk stands at place k mod 16. (That it has sixteen
-- places is said in the contracts. `expanded` goes on to j = 68, when all words have gone by.)
pub record Ring (B : List ℕ) (j : ℕ) (w : List ℕ) : Type 0 where
  pub holds : (k : ℕ) → j ≤ k → k < j + 16 → k < 68 → get_or w (k % 16) 0 ≡ W B k

-- what stands before round j: that ring, and the registers r that the first j rounds make of v
pub record Before (B : List ℕ) (v : Words) (j : ℕ) (w : List ℕ) (r : Words) : Type 0 where
  pub words : Ring B j w
  pub registers : r ≡ rounds j v (expansion B)

-- x is Wj, for j from 16 on: of whatever block, if w is the ring with the sixteen words before it
abbrev pub IsWord : ℕ → List ℕ → ℕ → Type 0
IsWord j w x = (B : List ℕ) → Ring B (j - 16) w → x ≡ W B j

-- w' is w turned by one word: of whatever block, if w is the ring before round j, then w' is the one before round j + 1
abbrev pub Turned : ℕ → List ℕ → List ℕ → Type 0
Turned j w w' = (B : List ℕ) → Ring B j w → Ring B (j + 1) w'

-- from round j to round k: of whatever block and from whatever words v, if w and r stand before round j, then w' and s before round k
abbrev pub Goes : ℕ → ℕ → List ℕ → Words → List ℕ → Words → Type 0
Goes j k w r w' s = (B : List ℕ) (v : Words) → Before B v j w r → Before B v k w' s
