-- The crate's promises, proved. Assumes nothing.
use mathlib.Core.Path.{refl, ap, ◌∙◌}
use Prim.Native.Nat.{ℕ}
use lib.ListN.{length}
use native.Mathlib.Nat.{zero-add}
use Rattle.std.specs.Prelude.{Some}
use Rattle.decimal.specs.Numbers.{figure, longer, IsNumber}
use Rattle.decimal.specs.Reading.{good_numeral}
use Rattle.decimal.specs.Writing.{decimal, figures_of}
use Rattle.decimal.specs.Promises.{Promises}
use Rattle.decimal.proofs.Numbers.{number_read, found_stands, longest_read, none_stands, one_decimal, one_value}
use Rattle.decimal.proofs.Steps.{figure_from, figure_to, is_figure_lem}
use Rattle.decimal.proofs.Spelling.{spells, few, at_least}

pub proved : Promises
unfolding IsNumber figures_of
proved =
    record {
      figures = λ byte. (λ h. (figure_from byte h, figure_to byte h), λ h. is_figure_lem byte h.0 h.1);
      one_figure = λ d h. figure d h;
      figure_more = λ text value d begun some below. longer d begun some below;
      is_number = λ text value. (λ h. h, λ h. h);
      one_spelling = λ text other value d e. one_decimal text other value value d e refl;
      one_value = one_value;
      found_stands = found_stands;
      longest = longest_read;
      none_stands = none_stands;
      reads = number_read;
      spells = spells;
      laid = λ n. refl;
      reads_back = λ n rest fits other. number_read _ (decimal n) rest 0 n (spells n, fits) other refl ∙ ap (λ (k : ℕ). Some (good_numeral n k)) (zero-add (length (decimal n)));
      at_most = λ n k some below. (at_least n, few k n some below);
    }
