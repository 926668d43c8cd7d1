-- The crate's promises, proved. Assumes nothing.
use mathlib.Core.Path.{refl}
use Rattle.refusal.specs.Promises.{Promises}
use Rattle.refusal.proofs.Telling.{one_number, not_accepted, numbered, told}

pub proved : Promises
proved =
    record {
      none = refl;
      numbers = refl;
      later_numbers = refl;
      counts = λ number size. (refl, refl);
      one_number = one_number;
      not_accepted = not_accepted;
      number_told = λ r. (refl, refl);
      numbered = numbered;
      written_as = λ size r. (refl, refl);
      told = told;
    }
