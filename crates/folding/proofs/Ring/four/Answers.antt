use Rattle.folding.proofs.Rounds.{next_four}
use Rattle.folding.proofs.Ring.four.Goals as goal

pub returns : goal.returns
returns c = next_four c.args.j c.step-r.ensures c.step-r-2.ensures c.step-r-3.ensures c.step.ensures
