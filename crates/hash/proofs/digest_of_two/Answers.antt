-- `digest_of_two` is the digest of the joined pieces. Assumes nothing.
use mathlib.Core.List.{◌++◌}
use native.Mathlib.Omega.{arith}
use borrow.Author.Rules.{rules}
use lib.ListN.{length-append}
use Rattle.hash.proofs.Following.{held_none, held_more, held_refused, held_ends}
use Rattle.hash.proofs.digest_of_two.Goals as goal

pub returns-in_err-update : goal.returns-in_err-update
returns-in_err-update c =
    let first = c.args.first.now in
    let second = c.args.second.now in
    search (rules, held_refused (held_none c.fresh.ensures) first c.in_err-update.field-0.0 (first ++ second) (omega (arith, length-append first second)) c.in_err-update.ensures)

pub returns-in_err-update-2 : goal.returns-in_err-update-2
returns-in_err-update-2 c =
    let first = c.args.first.now in
    let second = c.args.second.now in
    let one = held_more (held_none c.fresh.ensures) first c.in_ok-update.ensures in
    search (rules, held_refused one second c.in_err-update-2.field-0.0 (first ++ second) (omega (arith, length-append first second)) c.in_err-update-2.ensures)

pub returns : goal.returns
returns c = held_ends (held_more (held_more (held_none c.fresh.ensures) _ c.in_ok-update.ensures) _ c.in_ok-update-2.ensures) c.finish.ensures
