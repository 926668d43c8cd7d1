-- Every promise of the crate, proved. Assumes nothing.
use Rattle.std.proofs.Common.{refl, arith}
use Rattle.word.specs.Rotation.{◌⊞◌, ◌<<<◌}
use Rattle.word.specs.BigEndian.{number_from, number_of, AreBytes}
use Rattle.word.specs.Promises.{Promises, Sum, ByOne, MostFirst, FourBytes}
use Rattle.word.proofs.Rotation.{rotated_lt, rotated_none, rotated_add, rotated_mod}
use Rattle.word.proofs.BigEndian.{length_bigEndian, number_snoc, number_bytes, are_bytes_bigEndian, bytes_number}

turned_one : ByOne
unfolding ◌<<<◌
turned_one x = refl

sums : Sum
unfolding ◌⊞◌
sums x y = refl

most_first : MostFirst
unfolding number_of number_from
most_first = (refl, λ bytes b. number_snoc 0 b bytes)

four_bytes : FourBytes
unfolding number_of number_from
four_bytes a b c d = omega arith

pub proved : Promises
unfolding AreBytes
proved =
    record {
      sums = sums;
      stays_a_word = rotated_lt;
      by_none = rotated_none;
      by_one = turned_one;
      by_both = rotated_add;
      by_remainder = rotated_mod;
      most_first = most_first;
      four_bytes = four_bytes;
      bytes_are = λ bytes. (λ h. h, λ h. h);
      as_many = λ n x. (length_bigEndian n x, are_bytes_bigEndian n x);
      number_back = number_bytes;
      bytes_back = bytes_number;
    }
