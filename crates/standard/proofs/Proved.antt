-- Every promise of the crate, proved. Assumes nothing.
use mathlib.Core.Path.{refl}
use Rattle.standard.specs.Promises.{Promises}
use Rattle.standard.proofs.Expansion.{length_expansion, expansion_block, expansion_next}
use Rattle.standard.proofs.Rounds.{traced}
use Rattle.standard.proofs.Folding.{iterated_next, folded_join, length_hashValue}
use Rattle.standard.proofs.Page.{below_16, from_16, permutations, round_is, round_words, primed, rounds_are, xored, no_block, blocks, value}

pub proved : Promises
proved =
    record {
      symbols = λ x y. (refl, refl, refl);
      start = refl;
      below_16 = below_16;
      from_16 = from_16;
      permutations = permutations;
      sixty_eight = length_expansion;
      block_first = expansion_block;
      recurrence = expansion_next;
      round_is = round_is;
      round_words = round_words;
      primed = primed;
      rounds_are = rounds_are;
      xored = xored;
      traced = traced;
      iteration = iterated_next;
      no_block = no_block;
      blocks = blocks;
      joining = folded_join;
      value = value;
      thirty_two = length_hashValue;
    }
