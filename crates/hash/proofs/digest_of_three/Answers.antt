-- `digest_of_three` is the digest of the joined pieces. Assumes nothing.
use mathlib.Core.Path.{◌∙◌, ap}
use mathlib.Core.List.{◌++◌, append_assoc}
use native.Mathlib.Omega.{arith}
use borrow.Author.Rules.{rules}
use lib.ListN.{length-append}
use Rattle.hash.specs.Digests.{digest}
use Rattle.hash.proofs.Following.{held_none, held_more, held_refused, held_ends}
use Rattle.hash.proofs.digest_of_three.Goals as goal

pub returns-in_err-update : goal.returns-in_err-update
returns-in_err-update c =
    let first = c.args.first.now in
    let rest = c.args.second.now ++ c.args.third.now in
    search (rules, held_refused (held_none c.fresh.ensures) first c.in_err-update.field-0.0 (first ++ rest) (omega (arith, length-append first rest)) c.in_err-update.ensures)

pub returns-in_err-update-2 : goal.returns-in_err-update-2
returns-in_err-update-2 c =
    let first = c.args.first.now in
    let second = c.args.second.now in
    let third = c.args.third.now in
    let one = held_more (held_none c.fresh.ensures) first c.in_ok-update.ensures in
    search (
      rules,
      held_refused one second c.in_err-update-2.field-0.0 (first ++ (second ++ third)) (omega (arith, length-append first (second ++ third), length-append second third)) c.in_err-update-2.ensures,
    )

pub returns-in_err-update-3 : goal.returns-in_err-update-3
returns-in_err-update-3 c =
    let first = c.args.first.now in
    let second = c.args.second.now in
    let third = c.args.third.now in
    let two = held_more (held_more (held_none c.fresh.ensures) first c.in_ok-update.ensures) second c.in_ok-update-2.ensures in
    search (
      rules,
      held_refused two third c.in_err-update-3.field-0.0 (first ++ (second ++ third)) (omega (arith, length-append first (second ++ third), length-append second third, length-append first second)) c.in_err-update-3.ensures,
    )

pub returns : goal.returns
returns c =
    let two = held_more (held_more (held_none c.fresh.ensures) _ c.in_ok-update.ensures) _ c.in_ok-update-2.ensures in
    held_ends (held_more two _ c.in_ok-update-3.ensures) c.finish.ensures
    ∙ ap digest (append_assoc c.args.first.now c.args.second.now c.args.third.now)
