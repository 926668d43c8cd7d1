-- The examples that document 01 marks P hold. Each is worked out by the definitions.
use Prim.{tt}
use Prim.Native.Nat.{ℕ}
use lib.ListN.{replicate}
use mathlib.Core.Path.{◌≡◌, refl}
use mathlib.Core.Logic.Iff
use mathlib.Core.Logic.{◌↔◌}
use mathlib.Core.List.{List, [], ◌∷◌}
use mathlib.Core.Bool.{Bool, true, ◌&&◌}
use lib.Dec.{eqb}
use borrow.Author.Tests.{eqb-true}
use Rattle.truth.proofs.Tests.{first, second}
use Rattle.word.specs.Rotation.{◌⊞◌, ◌<<<◌}
use Rattle.word.specs.BigEndian.{big_endian, number_from, number_of}
use Rattle.standard.specs.Standard.{IV, T, FF, GG, P0, P1, split, next_word, extended, expansion, W', round_on, round, rounds}
use Rattle.padding.specs.Padding.{zeros, padding, padded, block_count}
use Rattle.rules.specs.Rules.{is_note, note_rule, length_rule, loop_rule}
use Rattle.sheet.specs.Judging.{entry_number}
use Rattle.promises.specs.Examples.{Example, abc, abc_round0, loop_number, examples, Hold}

-- whether every number found is the one printed
agree : List Example → Bool
agree [] = true
agree (e ∷ es) = eqb e.found e.printed && agree es

hold : (es : List Example) → agree es ≡ true → Hold es
unfolding Hold agree
hold [] h = tt
hold (e ∷ es) h = (eqb-true _ _ (first (eqb e.found e.printed) (agree es) h), hold es (second (eqb e.found e.printed) (agree es) h))

pub examples_hold : Hold examples
unfolding agree ◌⊞◌ ◌<<<◌ big_endian number_from number_of T FF GG P0 P1 split next_word extended expansion W' round_on round rounds zeros padding padded block_count note_rule is_note length_rule loop_rule entry_number abc abc_round0 loop_number
examples_hold = hold examples refl

pub each_holds : (e : Example) (es : List Example) → Hold (e ∷ es) ↔ ((e.found ≡ e.printed) × Hold es)
unfolding Hold
each_holds e es = Iff.rfl

pub abc_words : abc ≡ expansion (padded (0x61 ∷ 0x62 ∷ 0x63 ∷ []))
unfolding abc
abc_words = refl

pub abc_round_0 : abc_round0 ≡ rounds 1 IV (expansion (padded (0x61 ∷ 0x62 ∷ 0x63 ∷ [])))
unfolding abc abc_round0
abc_round_0 = refl

pub loop_number_lem : (start end : ℕ)
    → loop_number start end ≡ entry_number 0 (record { note = 1; sample = record { length = 64; loop_start = start; loop_end = end; digest = replicate 32 0 } })
unfolding loop_number
loop_number_lem start end = refl
