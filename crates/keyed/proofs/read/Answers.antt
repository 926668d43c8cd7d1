-- `read` judges the MAC line, and reads as a sheet what it covers. Assumes nothing.
use mathlib.Core.Path.{◌∙◌}
use Rattle.sheet.proofs.Filling.{sheet_session}
use Rattle.keyed.proofs.Sheets.{answered_whole}
use Rattle.keyed.proofs.read.Goals as goal

pub returns : goal.returns
returns c =
    answered_whole _ _ _ _ _ _ _ (c.number_of-number.ensures ∙ c.mac_number.ensures) c.covered-rest.ensures.result_value
    (sheet_session _ _ _ _ _ (c.from-verdict.ensures ∙ c.judged.ensures) (c.from.ensures ∙ c.header_at.ensures) c.start_of-from.ensures c.filled-session.ensures)
    c.verdict_of.ensures
