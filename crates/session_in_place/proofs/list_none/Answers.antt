-- No count is left, and no note is listed. Assumes nothing.
use Rattle.std.proofs.Common.{rules, arith, ◌≡◌, sym, ◌∙◌, take, replicate}
use Rattle.std.proofs.lemmas.List.{length-set, take_more_set, replicate-append-replicate}
use lib.Seq.{take_all}
use Rattle.slots.specs.Slots.{empty_slot}
use Rattle.session.specs.Sessions.{empty_session}
use Rattle.session.proofs.Lists.{length_of_image}
use Rattle.session_in_place.proofs.list_none.Goals as goal

pub loop-slot-init : goal.loop-slot-init
loop-slot-init c = (search (rules, length_of_image, c.well_formed), search rules)

pub loop-slot-preserved : goal.loop-slot-preserved
loop-slot-preserved c =
    let inv = c.loop-slot.invariant in
    let i = c.loop-slot.slot-index in (
      length-set _ i _ ∙ inv.0,
      take_more_set c.loop-slot.slot-items i _ (omega (arith, inv.0, c.loop-slot-test.true))
          ∙ rw (inv.1, c.empty_slot.ensures) (replicate-append-replicate i 1 empty_slot),
    )

pub returns : goal.returns
unfolding empty_session
returns c =
    let i = c.loop-slot.slot-index in
    let all : i ≡ 32 = omega (arith, c.loop-slot.auto, c.loop-slot-test.false) in
    let whole : take i c.loop-slot.slot-items ≡ c.loop-slot.slot-items = take_all i c.loop-slot.slot-items (omega (arith, all, c.loop-slot.invariant.0)) in
    let empty : c.loop-slot.slot-items ≡ replicate i empty_slot = sym whole ∙ c.loop-slot.invariant.1 in
    rw (empty, all)
