-- `word_at` reads given bytes. The invariant: the whole word is read where the letters that are left are read from the place reached.
-- Assumes nothing.
use mathlib.Core.Path.{◌≡◌}
use lib.ListN.{drop}
use Rattle.lines.specs.Reading.{number_by, word_at}
use Rattle.lines.proofs.word_at.Given as goal

abbrev pub invariant-loop-letter : goal.invariant-loop-letter
invariant-loop-letter l =
    word_at l.text l.at l.letters (number_by l.wanted) ≡ word_at l.text l.next (drop l.letter-index l.letters) (number_by l.wanted)
