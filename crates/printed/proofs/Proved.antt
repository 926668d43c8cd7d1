-- The printed digests, computed. Assumes nothing.
use mathlib.Core.Path.{refl}
use Rattle.hash.specs.Sm3.{sm3}
use Rattle.word.specs.BigEndian.{big_endian, number_from, number_of}
use Rattle.word.specs.Rotation.{◌⊞◌, ◌<<<◌}
use Rattle.standard.specs.Standard.{T, FF, GG, P0, P1, split, next_word, extended, expansion, W', round, round_on, rounds, xor_words, CF, iterated, folded, hash_value}
use Rattle.padding.specs.Padding.{zeros, padding, padded}
use Rattle.printed.specs.Printed.{bytes_of, abc, sixteen_words, abcd16, Printed}

pub proved : Printed
unfolding bytes_of abc sixteen_words abcd16 sm3 big_endian number_from number_of ◌⊞◌ ◌<<<◌ T FF GG P0 P1 split next_word extended expansion W' round round_on rounds xor_words CF iterated folded hash_value zeros padding padded
proved = record { one_block = refl; two_blocks = refl }
