-- `mac_line` reads the MAC line, step by step: the first fault is the line's. Assumes nothing.
use Rattle.keyed.proofs.Judging.{whole_mac}
use Rattle.keyed.proofs.mac_line.Goals as goal

pub returns : goal.returns
returns c = whole_mac _ _ _ c.in_ok-word.ensures _ c.in_ok-tab.ensures _ c.in_ok-code.ensures _ c.in_ok-next.ensures
