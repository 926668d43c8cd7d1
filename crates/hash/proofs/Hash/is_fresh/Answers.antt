-- `is_fresh` decides whether a state is the fresh one. Assumes nothing.
use Rattle.hash.proofs.State.{ordered_fresh}
use Rattle.hash.proofs.Hash.is_fresh.Goals as goal

pub returns : goal.returns
returns c = ordered_fresh c.args.self c.in_order.result c.eq.result c.in_order.ensures c.eq.ensures
