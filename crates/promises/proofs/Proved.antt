-- Every promise of specs/Promises.antt is proved.
use mathlib.Core.Path.{refl}
use Rattle.promises.specs.Promises.{Promises}
use Rattle.promises.proofs.Examples.{examples_hold, each_holds, abc_words, abc_round_0, loop_number_lem}
use Rattle.promises.proofs.Sequencing.{sequencing}
use Rattle.promises.proofs.Demand3.{demand3}
use Rattle.promises.proofs.Reordering.{reordering}
use Rattle.promises.proofs.Loops.{no_last, last_of, loops}
use Rattle.promises.proofs.Light.{light}

pub proved : Promises
proved =
    record {
      small_examples = examples_hold;
      each_holds = each_holds;
      an_example = λ found printed. refl;
      abc_words = abc_words;
      abc_round_0 = abc_round_0;
      loop_number_lem = loop_number_lem;
      sequencing = sequencing;
      demand3 = demand3;
      reordering = reordering;
      loops = loops;
      no_last = no_last;
      last_of = last_of;
      light = light;
    }
