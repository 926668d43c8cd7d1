-- `hex_digits::table` gives the table of the definition, entry by entry. Assumes nothing.
use mathlib.Core.Path.{refl}
use Rattle.hex_digits.specs.Digits.{digit_of, digits}
use Rattle.hex_digits.proofs.table.Goals as goal

pub returns : goal.returns
unfolding digits digit_of
returns c = refl
