use mathlib.Core.Path.{refl}
use borrow.Author.Rules.{rules}
use Rattle.standard.specs.Standard.{split}
use Rattle.folding.proofs.Laid.{word_laid}
use Rattle.folding.proofs.Ring.new.Goals as goal

pub loop-j-init : goal.loop-j-init
unfolding split
loop-j-init c = refl

pub loop-j-preserved : goal.loop-j-preserved
loop-j-preserved c =
    let at = c.loop-j in
    word_laid _ at.word-items at.j _ (search rules) at.invariant c.block_word.ensures
