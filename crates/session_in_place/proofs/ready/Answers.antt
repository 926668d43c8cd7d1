-- `ready` compares the lent session's counts. Assumes nothing.
use Rattle.session.specs.Light.{ready as lit}
use Rattle.session_in_place.proofs.ready.Goals as goal

pub returns : goal.returns
unfolding lit
returns c = c.all_open.ensures
