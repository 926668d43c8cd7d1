-- `folding`: any two results that meet a contract coincide; and a contract is what is promised, of its own arguments. Assumes nothing.
use mathlib.Core.Logic.Iff
use Rattle.standard.specs.Standard.{expansion, CF, folded}
use Rattle.coincide.specs.Coincide.{Answers}
use Rattle.folding.specs.contracts
use Rattle.folding.proofs

pub expanded_means : Answers contracts.expanded.ended proofs.expanded.Reads.Post (λ κs a. expansion a.0.now)
expanded_means κs a r e = Iff.rfl

pub fold_block_means : Answers contracts.fold_block.ended proofs.fold_block.Reads.Post (λ κs a. CF a.0 a.1.0.now)
fold_block_means κs a r e = Iff.rfl

pub fold_means : Answers contracts.fold.ended proofs.fold.Reads.Post (λ κs a. folded a.0 a.1.0.now)
fold_means κs a r e = Iff.rfl
