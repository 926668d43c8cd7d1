use mathlib.Core.Path.{sym, ◌∙◌}
use Prim.Native.Nat.{◌<◌}
use lib.ListN.{length}
use borrow.Author.Rules.{rules}
use Rattle.standard.proofs.Folding.{folded_short}
use Rattle.folding.proofs.Walks.{walked_on}
use Rattle.folding.proofs.fold.Goals as goal

pub loop-block-preserved : goal.loop-block-preserved
loop-block-preserved c =
    walked_on _ _ _ _ _ _ _ (search rules) c.loop-block.invariant (search rules) (search rules) c.fold_block-r.ensures

pub returns : goal.returns
returns c =
    let short : length c.loop-block.rest.now < 64 = search rules in
    sym (c.loop-block.invariant ∙ folded_short _ _ short)
