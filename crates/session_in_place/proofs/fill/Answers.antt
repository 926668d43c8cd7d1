-- `fill` lists note after note: what each line gives stands at its note's slot. Assumes nothing.
use Rattle.std.proofs.Common.{arith, ◌≡◌, ◌-◌, sym, ◌∙◌, ap}
use Rattle.sheet.specs.Judging.{entries_at, with_notes}
use Rattle.sheet.proofs.Filling.{lists_none}
use Rattle.session_in_place.proofs.fill.Goals as goal

pub returns : goal.returns
returns c =
    let none : c.args.notes - c.loop.counter ≡ 0 = omega (arith, c.loop-test.false) in
    sym (c.loop.invariant ∙ ap (λ n. with_notes c.loop.s (entries_at n c.args.text.now c.loop.next)) none ∙ lists_none _ _ _)
