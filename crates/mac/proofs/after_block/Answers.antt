-- `after_block` is the fresh state with one block taken. Assumes nothing.
use mathlib.Core.Path.{◌≡◌, refl, sym, ap, ◌∙◌}
use borrow.Author.Rules.{rules}
use lib.ListN.{length}
use Rattle.hash.specs.State.{fresh}
use Rattle.hash.specs.declared.Hash.{Hash}
use Rattle.hash.proofs.State.{parts}
use Rattle.mac.proofs.Blocks.{block_taken}
use Rattle.mac.proofs.after_block.Goals as goal

pub returns : goal.returns
unfolding fresh
returns c =
    let l : length c.args.block ≡ 64 = search rules in
    parts c.fold.ensures refl (ap (λ (h : Hash). h.tail) c.fresh.ensures) ∙ sym (block_taken _ l)
