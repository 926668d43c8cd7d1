-- `start` makes two states of the key's block, or has none. Assumes nothing.
use borrow.Author.Rules.{rules}
use Rattle.mac.proofs.States.{start_from, start_refused}
use Rattle.mac.proofs.start.Goals as goal

pub returns-in_err-block : goal.returns-in_err-block
returns-in_err-block c = search (rules, start_refused c.args.key.now c.in_err-block.field-0.0 c.in_err-block.ensures)

pub returns : goal.returns
returns c = search (rules, start_from c.args.key.now c.in_ok-block.block c.in_ok-block.ensures)
