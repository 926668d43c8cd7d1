-- A number tells the refusal, and what a call answered. Assumes nothing.
use mathlib.Core.Path.{◌≡◌, refl, sym, ap, ◌∙◌}
use Rattle.std.specs.Prelude.{ℕ, List, [], ◌∷◌, Option, Some, None, Result, Ok, Err, ⊤}
use Rattle.refusal.specs.declared.Refusal.{Refusal}
use Rattle.refusal.specs.declared.Refusal.TheVariants
use Rattle.refusal.specs.Table.{accepted, number_by, number_of, written_of, refused_by, wrote}
use lib.ListN.{get_or}

-- what has each number: an accepted call, and the refusals
abbrev numbered_from_0 : List (Option Refusal)
numbered_from_0 =
    None
    ∷ Some TheVariants.Form ∷ Some TheVariants.CountOrNote ∷ Some TheVariants.BadLength ∷ Some TheVariants.BadLoop
    ∷ Some TheVariants.Unlisted ∷ Some TheVariants.SlotNotInOrder ∷ Some TheVariants.Decided ∷ Some TheVariants.PastLength
    ∷ Some TheVariants.StateNotInOrder ∷ Some TheVariants.TooLong ∷ Some TheVariants.WrongSize ∷ Some TheVariants.NoSuchBlock
    ∷ Some TheVariants.OtherTail ∷ Some TheVariants.NotPadded ∷ Some TheVariants.NoneListed ∷ Some TheVariants.ShortBuffer
    ∷ Some TheVariants.NoMacLine ∷ Some TheVariants.OtherCode ∷ Some TheVariants.NoWord ∷ Some TheVariants.NoNumber
    ∷ Some TheVariants.NoSeparator ∷ Some TheVariants.NoDigit ∷ Some TheVariants.TextAfter ∷ Some TheVariants.NoSuchPage
    ∷ Some TheVariants.OtherPathLength ∷ Some TheVariants.ShortPathBuffer ∷ Some TheVariants.TooDeep
    ∷ Some TheVariants.OtherPageSize ∷ Some TheVariants.OtherGroups ∷ []

abbrev with_number : ℕ → Option Refusal
with_number n = get_or numbered_from_0 n None

number_back : (r : Refusal) → with_number (number_by r) ≡ Some r
number_back TheVariants.Form = refl
number_back TheVariants.CountOrNote = refl
number_back TheVariants.BadLength = refl
number_back TheVariants.BadLoop = refl
number_back TheVariants.Unlisted = refl
number_back TheVariants.SlotNotInOrder = refl
number_back TheVariants.Decided = refl
number_back TheVariants.PastLength = refl
number_back TheVariants.StateNotInOrder = refl
number_back TheVariants.TooLong = refl
number_back TheVariants.WrongSize = refl
number_back TheVariants.NoSuchBlock = refl
number_back TheVariants.OtherTail = refl
number_back TheVariants.NotPadded = refl
number_back TheVariants.NoneListed = refl
number_back TheVariants.ShortBuffer = refl
number_back TheVariants.NoMacLine = refl
number_back TheVariants.OtherCode = refl
number_back TheVariants.NoWord = refl
number_back TheVariants.NoNumber = refl
number_back TheVariants.NoSeparator = refl
number_back TheVariants.NoDigit = refl
number_back TheVariants.TextAfter = refl
number_back TheVariants.NoSuchPage = refl
number_back TheVariants.OtherPathLength = refl
number_back TheVariants.ShortPathBuffer = refl
number_back TheVariants.TooDeep = refl
number_back TheVariants.OtherPageSize = refl
number_back TheVariants.OtherGroups = refl

pub one_number : (r s : Refusal) → number_by r ≡ number_by s → r ≡ s
one_number r s h = let a = number_back r in let b = number_back s in let c = ap with_number h in cc

pub not_accepted : (r : Refusal) → number_by r ≡ accepted → ⊥
not_accepted r h = let a = number_back r in let b = ap with_number h in let none : with_number accepted ≡ None = refl in cc

pub numbered : (x y : Result ⊤ Refusal) → number_of x ≡ number_of y → x ≡ y
numbered (Ok _) (Ok _) h = refl
numbered (Ok _) (Err s) h = absurd (not_accepted s (sym h))
numbered (Err r) (Ok _) h = absurd (not_accepted r h)
numbered (Err r) (Err s) h = ap Err (one_number r s h)

pub told : (x y : Result ℕ Refusal) → written_of x ≡ written_of y → x ≡ y
told (Ok a) (Ok b) h = ap Ok (ap (λ w. w.count) h)
told (Ok a) (Err s) h = absurd (not_accepted s (sym (ap (λ w. w.number) h)))
told (Err r) (Ok b) h = absurd (not_accepted r (ap (λ w. w.number) h))
told (Err r) (Err s) h = ap Err (one_number r s (ap (λ w. w.number) h))
