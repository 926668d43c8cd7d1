-- What this crate promises, all of it proved in proofs/Proved.antt.
use Rattle.std.specs.Prelude.{◌≡◌, ◌↔◌, ℕ, List, [], ◌∷◌, replicate}
use Rattle.lines.specs.declared.Entry.{Entry}
use Rattle.standard.specs.Standard.{IV, expansion, rounds}
use Rattle.padding.specs.Padding.{padded}
use Rattle.sheet.specs.Judging.{entry_number}
use Rattle.promises.specs.Examples.{Example, ◌is◌, abc, abc_round0, loop_number, Hold, examples}
use Rattle.promises.specs.Sequencing.{Sequencing}
use Rattle.promises.specs.Demand3.{Demand3}
use Rattle.promises.specs.Reordering.{Reordering}
use Rattle.promises.specs.Loops.{last_note, Loops}
use Rattle.promises.specs.Light.{Light}

pub record Promises : Type 0 where
  -- "Marked P are proved about the definitions, gathered in one list under a single theorem"
  pub small_examples : Hold examples
  -- what that means: each of them gives what is printed
  pub each_holds : (e : Example) (es : List Example) → Hold (e ∷ es) ↔ ((e.found ≡ e.printed) × Hold es)
  pub an_example : (found printed : ℕ) → (found is printed) ≡ record { found = found; printed = printed }
  -- and what is looked at: the words of "abc", its registers after round 0, the number of a sheet's line
  pub abc_words : abc ≡ expansion (padded (0x61 ∷ 0x62 ∷ 0x63 ∷ []))
  pub abc_round_0 : abc_round0 ≡ rounds 1 IV (expansion (padded (0x61 ∷ 0x62 ∷ 0x63 ∷ [])))
  pub loop_number_lem :
      (start end : ℕ)
      → loop_number start end
      ≡ entry_number 0
      (record { note = 1; sample = record { length = 64; loop_start = start; loop_end = end; digest = replicate 32 0 } })
  -- what "after any sequence of deliveries", "the bytes accepted for it" and "each note's own" mean, step by step
  pub sequencing : Sequencing
  -- demand 3, all but its last sentence
  pub demand3 : Demand3
  -- its last sentence
  pub reordering : Reordering
  -- 2/13: no loop leaves its sample
  pub loops : Loops
  -- where it speaks of the last note of some lines
  pub no_last : (before : ℕ) → last_note before [] ≡ before
  pub last_of : (before : ℕ) (e : Entry) (es : List Entry) → last_note before (e ∷ es) ≡ last_note e.note es
  -- 3/13: the rank-ready light
  pub light : Light
