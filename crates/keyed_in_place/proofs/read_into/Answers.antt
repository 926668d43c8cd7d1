-- `read_into` judges the MAC line, and reads as a sheet what it covers. Assumes nothing.
use mathlib.Core.Path.{ap, ◌∙◌}
use Rattle.keyed.specs.Keyed.{covered}
use Rattle.keyed.proofs.Sheets.{answered}
use Rattle.keyed_in_place.proofs.read_into.Goals as goal

pub returns : goal.returns
returns c =
    answered c.args.key.now c.args.text.now _ _ _ _ _ c.mac_number-mac.ensures
    (c.covered.ensures.result_value ∙ ap (covered c.args.text.now) c.number_of.ensures)
    c.read_into-judged.ensures c.judged.ensures
