-- `word`: any two results that meet a contract coincide; and a contract is what is promised, of its own arguments. Assumes nothing.
use mathlib.Core.Logic.Iff
use mathlib.Core.List.{[], ◌∷◌}
use Rattle.word.specs.Rotation.{◌⊞◌, ◌<<<◌}
use Rattle.word.specs.BigEndian.{big_endian, number_of}
use Rattle.coincide.specs.Coincide.{Answers}
use Rattle.word.specs.contracts
use Rattle.word.proofs

pub rotate_means : Answers contracts.rotate.ended proofs.rotate.Reads.Post (λ κs a. a.0 <<< a.1.0)
rotate_means κs a r e = Iff.rfl

pub sum_means : Answers contracts.sum.ended proofs.sum.Reads.Post (λ κs a. a.0 ⊞ a.1.0)
sum_means κs a r e = Iff.rfl

pub word_of_means : Answers contracts.word_of.ended proofs.word_of.Reads.Post (λ κs a. number_of (a.0 ∷ a.1.0 ∷ a.1.1.0 ∷ a.1.1.1.0 ∷ []))
word_of_means κs a r e = Iff.rfl

pub bytes_of_means : Answers contracts.bytes_of.ended proofs.bytes_of.Reads.Post (λ κs a. big_endian 4 a.0)
bytes_of_means κs a r e = Iff.rfl

pub eight_bytes_of_means : Answers contracts.eight_bytes_of.ended proofs.eight_bytes_of.Reads.Post (λ κs a. big_endian 8 a.0)
eight_bytes_of_means κs a r e = Iff.rfl
