-- `hex_digits`: any two results that meet a contract coincide; and a contract is what is promised, of its own arguments. Assumes nothing.
use mathlib.Core.Logic.Iff
use lib.ListN.{get_or}
use Rattle.hex_digits.specs.Digits.{digits, letter_of}
use Rattle.coincide.specs.Coincide.{Answers}
use Rattle.hex_digits.specs.contracts
use Rattle.hex_digits.proofs

pub table_means : Answers contracts.table.ended proofs.table.Reads.Post (λ κs a. digits)
table_means κs a r e = Iff.rfl

pub digit_means : Answers contracts.digit.ended proofs.digit.Reads.Post (λ κs a. get_or a.0.now a.1.0 0)
digit_means κs a r e = Iff.rfl

pub value_of_means : Answers contracts.value_of.ended proofs.value_of.Reads.Post (λ κs a. get_or digits a.0 0)
value_of_means κs a r e = Iff.rfl

pub letter_of_means : Answers contracts.letter_of.ended proofs.letter_of.Reads.Post (λ κs a. letter_of a.0)
letter_of_means κs a r e = Iff.rfl
