-- `finish` refuses a state that is not in order, and else gives the inner's digest to the outer. Assumes nothing.
use mathlib.Core.Path.{◌≡◌, sym, ◌∙◌}
use mathlib.Core.Bool.{true}
use borrow.Author.Rules.{rules}
use Rattle.mac.specs.Codes.{in_order}
use Rattle.mac.proofs.States.{finish_spoilt, inner_finishes, outer_takes, outer_finishes}
use Rattle.mac.proofs.Code.finish.Goals as goal

pub returns-then-not-ordered : goal.returns-then-not-ordered
returns-then-not-ordered c = sym (finish_spoilt c.args.self (search rules))

pub returns-in_err-inside : goal.returns-in_err-inside
returns-in_err-inside c =
    let o : in_order c.args.self ≡ true = search rules in
    absurd (inner_finishes c.args.self o c.finish.result c.finish.ensures _ c.in_err-inside.was)

pub returns-in_err-update : goal.returns-in_err-update
returns-in_err-update c =
    let o : in_order c.args.self ≡ true = search rules in
    absurd (outer_takes c.args.self o c.finish.result c.finish.ensures c.in_ok-inside.inside c.in_ok-inside.was _ c.in_err-update.ensures)

pub returns : goal.returns
returns c =
    let o : in_order c.args.self ≡ true = search rules in
    c.finish-2.ensures
    ∙ outer_finishes c.args.self o c.finish.result c.finish.ensures c.in_ok-inside.inside c.in_ok-inside.was _ c.in_ok-update.ensures
