-- `paths`: any two results that meet a contract coincide; and a contract is what is promised, of its own arguments. Assumes nothing.
use mathlib.Core.Logic.Iff
use Rattle.paths.specs.Names.{sheet_name, note_name, path_of}
use Rattle.coincide.specs.Coincide.{Answers}
use Rattle.paths.specs.contracts
use Rattle.paths.proofs

pub sheet_name_means : Answers contracts.sheet_name.ended proofs.sheet_name.Reads.Post (λ κs a. sheet_name)
sheet_name_means κs a r e = Iff.rfl

pub note_name_means : Answers contracts.note_name.ended proofs.note_name.Reads.Post (λ κs a. note_name a.0)
note_name_means κs a r e = Iff.rfl

pub path_of_means : Answers contracts.path_of.ended proofs.path_of.Reads.Post (λ κs a. path_of a.0.now a.1.0.now)
path_of_means κs a r e = Iff.rfl
