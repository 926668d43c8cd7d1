-- `standard`: any two results that meet a contract coincide; and a contract is what is promised, of its own arguments. Assumes nothing.
use mathlib.Core.Logic.Iff
use Rattle.standard.specs.Standard.{P1, round as rounded, xor_words, hash_value}
use Rattle.coincide.specs.Coincide.{Answers}
use Rattle.standard.specs.contracts
use Rattle.standard.proofs

pub p1_means : Answers contracts.p1.ended proofs.p1.Reads.Post (λ κs a. P1 a.0)
p1_means κs a r e = Iff.rfl

pub round_means : Answers contracts.round.ended proofs.round.Reads.Post (λ κs a. rounded a.0 a.1.0 a.1.1.0 a.1.1.1.0)
round_means κs a r e = Iff.rfl

pub xored_means : Answers contracts.xored.ended proofs.xored.Reads.Post (λ κs a. xor_words a.0 a.1.0)
xored_means κs a r e = Iff.rfl

pub hash_value_means : Answers contracts.hash_value.ended proofs.hash_value.Reads.Post (λ κs a. hash_value a.0)
hash_value_means κs a r e = Iff.rfl
