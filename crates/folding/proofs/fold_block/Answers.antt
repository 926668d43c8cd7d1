use Rattle.folding.proofs.Rounds.{compressed_by}
use Rattle.folding.proofs.fold_block.Goals as goal

pub returns : goal.returns
returns c = compressed_by _ _ _ _ _ _ c.new.ensures c.all_rounds-r.ensures c.xored.ensures
