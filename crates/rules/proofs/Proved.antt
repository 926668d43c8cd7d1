-- Every promise of the crate, proved. Assumes nothing.
use mathlib.Core.Path.{◌≡◌, refl}
use lib.ListN.{replicate}
use Rattle.rules.specs.Rules.{zero_record}
use Rattle.rules.specs.Promises.{Promises}
use Rattle.rules.proofs.Rules.{count_rule_is, is_note_is, note_rule_is, length_rule_is, loop_rule_is, loop_plays_inside, obeys_is}

zero_is : zero_record ≡ record { length = 0; loop_start = 0; loop_end = 0; digest = replicate 32 0 }
unfolding zero_record
zero_is = refl

pub proved : Promises
proved =
    record {
      counts = count_rule_is;
      numbers = is_note_is;
      notes = note_rule_is;
      lengths = length_rule_is;
      loops = loop_rule_is;
      plays = loop_plays_inside;
      good_length_lem = λ r. refl;
      good_loop_lem = λ r. refl;
      obeyed = obeys_is;
      zero = zero_is;
    }
