-- `texts`: any two results that meet a contract coincide; and a contract is what is promised, of its own arguments. Assumes nothing.
use mathlib.Core.Logic.Iff
use Rattle.decimal.specs.Writing.{decimal}
use Rattle.texts.specs.Texts.{empty_text, with_part}
use Rattle.coincide.specs.Coincide.{Answers}
use Rattle.texts.specs.contracts
use Rattle.texts.proofs

pub empty_means : Answers contracts.empty.ended proofs.empty.Reads.Post (λ κs a. empty_text)
empty_means κs a r e = Iff.rfl

pub with_means : Answers contracts.with.ended proofs.with.Reads.Post (λ κs a. with_part a.0 a.1.0.now)
with_means κs a r e = Iff.rfl

pub with_number_means : Answers contracts.with_number.ended proofs.with_number.Reads.Post (λ κs a. with_part a.0 (decimal a.1.0))
with_number_means κs a r e = Iff.rfl
