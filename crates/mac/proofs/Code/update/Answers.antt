-- `update` refuses a state that is not in order, and else gives the piece to the inner. Assumes nothing.
use mathlib.Core.Path.{◌≡◌, sym}
use mathlib.Core.Bool.{true}
use borrow.Author.Rules.{rules}
use Rattle.mac.specs.Codes.{in_order}
use Rattle.mac.proofs.States.{update_spoilt, by_inner}
use Rattle.mac.proofs.Code.update.Goals as goal

pub returns-then-not-in_order : goal.returns-then-not-in_order
returns-then-not-in_order c = sym (update_spoilt c.args.self _ (search rules))

pub returns-in_err-inner : goal.returns-in_err-inner
returns-in_err-inner c =
    let o : in_order c.args.self ≡ true = search rules in
    search (rules, by_inner c.args.self c.args.piece.now o _ c.in_err-inner.ensures)

pub returns : goal.returns
returns c =
    let o : in_order c.args.self ≡ true = search rules in
    by_inner c.args.self c.args.piece.now o _ c.in_ok-inner.ensures
