-- HMAC's definition, run. Assumes nothing.
use mathlib.Core.Path.{refl}
use Rattle.hash.specs.Sm3.{sm3}
use Rattle.word.specs.BigEndian.{big_endian, number_from, number_of}
use Rattle.word.specs.Rotation.{◌⊞◌, ◌<<<◌}
use Rattle.standard.specs.Standard.{T, FF, GG, P0, P1, split, next_word, extended, expansion, W', round, round_on, rounds, xor_words, CF, iterated, folded, hash_value}
use Rattle.padding.specs.Padding.{zeros, padding, padded}
use Rattle.printed.specs.Printed.{bytes_of}
use Rattle.mac.specs.Hmac.{◌⊕◌, ipad, opad, short_key, key_block, hmac}
use Rattle.rejected.specs.Example.{text}
use Rattle.keyed_rejected.specs.Example.{key, other_key, code, code_by_other, code_of_none}
use Rattle.keyed_rejected.specs.Promises.{Run}

pub computed : Run
unfolding key other_key code code_by_other code_of_none text hmac ◌⊕◌ ipad opad short_key key_block bytes_of sm3 big_endian number_from number_of ◌⊞◌ ◌<<<◌ T FF GG P0 P1 split next_word extended expansion W' round round_on rounds xor_words CF iterated folded hash_value zeros padding padded
computed = record { example = refl; by_other = refl; of_none = refl }
