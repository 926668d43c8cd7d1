-- `key_block` lays the key, or its digest, before zeros. Assumes nothing.
use native.Mathlib.Omega.{arith}
use borrow.Author.Rules.{rules}
use Rattle.mac.proofs.Blocks.{block_refused, block_long}
use Rattle.mac.proofs.key_block.Goals as goal

pub returns-in_err-digest : goal.returns-in_err-digest
returns-in_err-digest c = search (rules, block_refused c.args.key.now c.in_err-digest.field-0.0 c.in_err-digest.ensures)

pub returns-in_ok-digest : goal.returns-in_ok-digest
returns-in_ok-digest c = search (rules, block_long c.args.key.now c.in_ok-digest.digest (omega arith) c.in_ok-digest.ensures)
