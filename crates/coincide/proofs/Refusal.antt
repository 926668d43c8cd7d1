-- `refusal`: any two results that meet a contract coincide; and a contract is what is promised, of its own arguments. Assumes nothing.
use mathlib.Core.Logic.Iff
use mathlib.Core.Path.{◌≡◌, refl}
use mathlib.Core.List.{[], ◌∷◌}
use Rattle.refusal.specs.Table.{number_by, number_of, written_of}
use Rattle.refusal.specs.declared.Refusal.TheVariants
use Rattle.coincide.specs.Coincide.{Answers}
use Rattle.refusal.specs.contracts
use Rattle.refusal.proofs

pub Refusal-number_means : Answers contracts.Refusal.number.ended proofs.Refusal.number.Reads.Post (λ κs a. number_by a.0)
Refusal-number_means κs a r e = Iff.rfl

pub number_of_means : Answers contracts.number_of.ended proofs.number_of.Reads.Post (λ κs a. number_of a.0)
number_of_means κs a r e = Iff.rfl

-- `Written::from`
pub WrittenFromResultUsizeRefusal-from_means : Answers contracts.WrittenFromResultUsizeRefusal.from.ended proofs.WrittenFromResultUsizeRefusal.from.Reads.Post (λ κs a. written_of a.0)
WrittenFromResultUsizeRefusal-from_means κs a r e = Iff.rfl

pub numbers_means : Answers contracts.numbers.ended proofs.numbers.Reads.Post
    (λ κs a. 0 ∷ 1 ∷ 2 ∷ 3 ∷ 4 ∷ 5 ∷ 6 ∷ 7 ∷ 8 ∷ 9 ∷ 10 ∷ 11 ∷ 12 ∷ 13 ∷ 14 ∷ 15 ∷ 16 ∷ 17 ∷ 18 ∷ 19 ∷ 20 ∷ 21 ∷ 22 ∷ 23 ∷ 24 ∷ 25 ∷ 26 ∷ 27 ∷ 28 ∷ 29 ∷ [])
numbers_means κs a r e = Iff.rfl

-- each case of the enum has the number of its row
pub each_number :
    number_by TheVariants.Form ∷ number_by TheVariants.CountOrNote ∷ number_by TheVariants.BadLength ∷ number_by TheVariants.BadLoop
    ∷ number_by TheVariants.Unlisted ∷ number_by TheVariants.SlotNotInOrder ∷ number_by TheVariants.Decided ∷ number_by TheVariants.PastLength
    ∷ number_by TheVariants.StateNotInOrder ∷ number_by TheVariants.TooLong ∷ number_by TheVariants.WrongSize ∷ number_by TheVariants.NoSuchBlock
    ∷ number_by TheVariants.OtherTail ∷ number_by TheVariants.NotPadded ∷ number_by TheVariants.NoneListed ∷ number_by TheVariants.ShortBuffer
    ∷ number_by TheVariants.NoMacLine ∷ number_by TheVariants.OtherCode ∷ number_by TheVariants.NoWord ∷ number_by TheVariants.NoNumber
    ∷ number_by TheVariants.NoSeparator ∷ number_by TheVariants.NoDigit ∷ number_by TheVariants.TextAfter ∷ number_by TheVariants.NoSuchPage
    ∷ number_by TheVariants.OtherPathLength ∷ number_by TheVariants.ShortPathBuffer ∷ number_by TheVariants.TooDeep ∷ number_by TheVariants.OtherPageSize
    ∷ number_by TheVariants.OtherGroups ∷ []
    ≡ 1 ∷ 2 ∷ 3 ∷ 4 ∷ 5 ∷ 6 ∷ 7 ∷ 8 ∷ 9 ∷ 10 ∷ 11 ∷ 12 ∷ 13 ∷ 14 ∷ 15 ∷ 16 ∷ 17 ∷ 18 ∷ 19 ∷ 20 ∷ 21 ∷ 22 ∷ 23 ∷ 24 ∷ 25 ∷ 26 ∷ 27 ∷ 28 ∷ 29 ∷ []
each_number = refl
