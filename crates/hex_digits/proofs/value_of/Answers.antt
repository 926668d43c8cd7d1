-- `value_of` looks a byte up in the table of the definition. Assumes nothing.
use Rattle.hex_digits.specs.Digits.{digit_of, digits}
use Rattle.hex_digits.proofs.value_of.Goals as goal

pub returns : goal.returns
unfolding digits digit_of
returns c = c.digit.ensures
