-- `in_order` is the four tests. Assumes nothing.
use mathlib.Core.Path.{ap₂}
use mathlib.Core.Bool.{Bool, ◌&&◌}
use lib.Dec.{leb, eqb}
use Rattle.mac.specs.Codes.{in_order}
use Rattle.mac.proofs.Code.in_order.Goals as goal

pub returns : goal.returns
unfolding in_order
returns c =
    let self = c.args.self in
    ap₂ (λ (p q : Bool). p && q && leb 64 self.inner.total && eqb self.outer.total 64)
    c.in_order.ensures c.in_order-2.ensures
