-- The crate's promises, proved. Assumes nothing.
use mathlib.Core.Path.{refl}
use Rattle.texts.specs.Texts.{empty_text, said}
use Rattle.texts.specs.Promises.{Promises}
use Rattle.texts.proofs.Parts.{part_not, part_placed, part_said, sound_empty, sound_part, said_bytes, of_none, joined}

pub proved : Promises
unfolding empty_text said
proved =
    record {
      first = λ t. refl;
      empty = refl;
      silent = refl;
      says = part_said;
      placed = part_placed;
      stays = part_not;
      sound_empty = sound_empty;
      sound = sound_part;
      of_bytes = said_bytes;
      of_none = of_none;
      joins = joined;
    }
