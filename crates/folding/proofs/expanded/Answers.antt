use mathlib.Core.Path.{refl}
use borrow.Author.Rules.{rules}
use Rattle.folding.proofs.Rounds.{ring_first, word_seen, all_seen}
use Rattle.folding.proofs.expanded.Goals as goal

pub loop-j-init : goal.loop-j-init
loop-j-init c = (ring_first _ _ c.new-ring.ensures, refl)

pub loop-j-preserved : goal.loop-j-preserved
loop-j-preserved c =
    let at = c.loop-j in
    (c.turn.ensures _ at.invariant.0, word_seen _ at.ring.words at.word-items at.j (search rules) (search rules) at.invariant.0 at.invariant.1)

pub returns : goal.returns
returns c =
    let at = c.loop-j in
    all_seen _ at.word-items at.j (search rules) (search rules) at.invariant.1
