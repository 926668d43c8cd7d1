-- The page's definitions, as the promises spell them out. Assumes nothing.
use Prim.Native.Nat.{ℕ, zero, suc, ◌<◌, ◌≤◌}
use mathlib.Core.Path.{refl}
use native.Mathlib.Omega.{arith}
use borrow.Author.Tests.{lt-ltb, le-ltb}
use Rattle.word.specs.BigEndian.{big_endian}
use Rattle.standard.proofs.Rounds.{rounds_next}
use Rattle.standard.specs.Standard.{T, FF, GG, P0, P1, W', round, round_on, rounds, xor_words, iterated, folded, rest, hash_value}
use Rattle.standard.specs.Promises.{Below16, From16, Permutations, Round, RoundWords, Primed, Rounds, Xored, NoBlock, Blocks, Value}

pub below_16 : (j : ℕ) → j < 16 → Below16 j
unfolding T FF GG
below_16 j h = let small = lt-ltb j 16 h in record { constant = rw small; ff = λ X Y Z. rw small; gg = λ X Y Z. rw small }

pub from_16 : (j : ℕ) → 16 ≤ j → From16 j
unfolding T FF GG
from_16 j h = let large = le-ltb j 16 h in record { constant = rw large; ff = λ X Y Z. rw large; gg = λ X Y Z. rw large }

pub permutations : Permutations
unfolding P0 P1
permutations X = (refl, refl)

pub round_is : Round
unfolding round
round_is j r Wj W'j SS1 TT1 TT2 e f g = rw (f, g, e)

pub round_words : RoundWords
unfolding round_on W'
round_words B j r = refl

pub primed : Primed
unfolding W'
primed w j = refl

pub rounds_are : Rounds
unfolding rounds
rounds_are v w j = (refl, rounds_next j v w)

pub xored : Xored
unfolding xor_words
xored x y = refl

pub no_block : NoBlock
unfolding iterated
no_block v m = refl

pub blocks : Blocks
unfolding folded rest
blocks v m = (refl, refl)

pub value : Value
unfolding hash_value big_endian
value v zero h = refl
value v (suc zero) h = refl
value v (suc (suc zero)) h = refl
value v (suc (suc (suc zero))) h = refl
value v (suc (suc (suc (suc zero)))) h = refl
value v (suc (suc (suc (suc (suc zero))))) h = refl
value v (suc (suc (suc (suc (suc (suc zero)))))) h = refl
value v (suc (suc (suc (suc (suc (suc (suc zero))))))) h = refl
value v (suc (suc (suc (suc (suc (suc (suc (suc j)))))))) h = absurd (omega arith)
