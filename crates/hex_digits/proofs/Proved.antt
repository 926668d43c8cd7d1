-- The crate's promises, proved. Assumes nothing.
use Prim.Native.Nat.{◌<◌}
use mathlib.Core.Path.{◌≡◌, refl}
use mathlib.Core.Logic.{⊎_elim}
use native.Mathlib.Omega.{arith}
use lib.ListN.{length}
use Rattle.hex_digits.specs.Digits.{IsDigit, digit_of, digits, letter_of}
use Rattle.hex_digits.specs.Promises.{Promises}
use Rattle.hex_digits.proofs.Digits.{rule, digit_value, digit_below, digit_or_none, value_digit, is_letter, letter_none, one_letter}

sized : length digits ≡ 256
unfolding digits
sized = refl

pub proved : Promises
unfolding IsDigit
proved =
    record {
      size = sized;
      entry = rule;
      is_digit = λ code value. (λ h. h, λ h. h);
      digit = λ code value. (
        λ h. (digit_value code value h, digit_below code value h),
        λ h. rw h.0 at (value_digit code (rw h.0 h.1)),
      );
      other = λ code. (
        λ none. ⊎_elim (λ h. absurd (none (digit_of code) h.1)) (λ h. h) (digit_or_none code),
        λ h value digit.
            let same : digit_of code ≡ value = digit_value code value digit in
            let below : value < 16 = digit_below code value digit in
            omega arith,
      );
      letter = is_letter;
      reads_back = λ value h. digit_value (letter_of value) value (is_letter value h);
      no_letter = letter_none;
      one_letter = one_letter;
    }
