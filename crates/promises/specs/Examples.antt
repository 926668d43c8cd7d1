-- "Small examples": those that document 01 marks P, its loop cases as 2/13 replaced them, one list under a single theorem
-- (proofs/Examples.antt).
use Prim.{Unit}
use Rattle.std.specs.Prelude.{ℕ, ◌≡◌, List, [], ◌∷◌, get_or, replicate}
use Rattle.refusal.specs.Table.{accepted, bad_loop}
use Rattle.standard.specs.declared.Words.{Words}
use Rattle.standard.specs.Standard.{IV, P0, P1, expansion, W', rounds}
use Rattle.padding.specs.Padding.{padded, block_count}
use Rattle.sheet.specs.Judging.{entry_number}

-- what the definitions give, and what the documents print
pub record Example : Type 0 where
  pub found : ℕ
  pub printed : ℕ

infix 68 ◌is◌
abbrev pub ◌is◌ : ℕ → ℕ → Example
found is printed = record { found = found; printed = printed }

-- the words W0 .. W67 of the padded "abc", which is one block
unfoldable pub abc : List ℕ
abc = expansion (padded (0x61 ∷ 0x62 ∷ 0x63 ∷ []))

-- its registers after round 0
unfoldable pub abc_round0 : Words
abc_round0 = rounds 1 IV abc

-- a sheet's line with a loop "with 32 frames", which are 64 bytes: its number, 0 where it is accepted
unfoldable pub loop_number : (start end : ℕ) → ℕ
loop_number start end =
    entry_number 0
    (record { note = 1; sample = record { length = 64; loop_start = start; loop_end = end; digest = replicate 32 0 } })

abbrev pub examples : List Example
examples =
    -- "P0(00000001) = 00020201; P1(80000000) = 80404000"
    P0 0x00000001 is 0x00020201
    ∷ P1 0x80000000 is 0x80404000
    -- ""abc": W16 = 9092e200, W18 = 000c0606, W'11 = 00000018; after round 0, A = b9edc12b and E = b2ad29f4"
    ∷ get_or abc 16 0 is 0x9092e200
    ∷ get_or abc 18 0 is 0x000c0606
    ∷ W' abc 11 is 0x00000018
    ∷ abc_round0.a is 0xb9edc12b
    ∷ abc_round0.e is 0xb2ad29f4
    -- "block counts for 55, 56 and 64 bytes are 1, 2, 2"
    ∷ block_count 55 is 1
    ∷ block_count 56 is 2
    ∷ block_count 64 is 2
    -- 2/13: "With 32 frames, 0..31 and 31..31 are accepted, 0..32 and 32..32 refused"
    ∷ loop_number 0 31 is accepted
    ∷ loop_number 31 31 is accepted
    ∷ loop_number 0 32 is bad_loop
    ∷ loop_number 32 32 is bad_loop
    ∷ []

-- every example of a list: what the definitions give is what is printed
unfoldable pub Hold : List Example → Type 0
Hold [] = Unit {0}
Hold (e ∷ es) = (e.found ≡ e.printed) × Hold es
