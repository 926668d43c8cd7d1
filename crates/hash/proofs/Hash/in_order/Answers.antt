-- `in_order` decides whether a state is in order. Assumes nothing.
use Rattle.std.proofs.Common.{rules, arith}
use Rattle.std.proofs.lemmas.Bool.Decides.{nat_tests}
use Rattle.hash.proofs.State.{trailing_zeros}
use Rattle.hash.proofs.Hash.in_order.Goals as goal

pub returns : goal.returns
returns c = rw (trailing_zeros c.args.self (search rules)) (grind (arith, nat_tests))
