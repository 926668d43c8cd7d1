-- `view_number` refuses what the writer refuses, then a tail that is not the writer's, then a block that is not there. Assumes nothing.
use mathlib.Core.Path.{refl, sym}
use borrow.Author.Rules.{rules}
use Rattle.std.proofs.lemmas.Result.{err_from_is_err_and}
use Rattle.truth.proofs.Tests.{refuted, confirmed}
use Rattle.refusal.specs.Table.{refused_by, number_by, wrote}
use Rattle.refusal.proofs.Telling.{not_accepted}
use Rattle.padded.proofs.Viewed.{view_refused, tail_there, tail_fits, answers_other, answers_past, answers_accepted}
use Rattle.padded.proofs.view_number.Goals as goal

pub returns-in_err-size : goal.returns-in_err-size
returns-in_err-size c =
    let why = c.in_err-size.field-0.0 in
    let told = err_from_is_err_and c.from_residual.result c.from_residual.ensures.1 in
    rw (told.1, told.2) (view_refused c.args.message.now c.args.buffer.now c.args.i (refused_by (number_by why)) c.in_err-size.ensures (not_accepted why))

pub slice_bounds-holds_tail-end : goal.slice_bounds-holds_tail-end
slice_bounds-holds_tail-end c = sym (tail_there c.args.message.now c.args.buffer.now c.args.i (wrote c.in_ok-size.size) c.in_ok-size.ensures refl)

pub holds_tail-requires : goal.holds_tail-requires
holds_tail-requires c = tail_fits c.args.message.now c.args.buffer.now c.args.i (wrote c.in_ok-size.size) c.in_ok-size.ensures refl

pub returns-then-not-holds_tail : goal.returns-then-not-holds_tail
returns-then-not-holds_tail c =
    answers_other c.args.message.now c.args.buffer.now c.args.i (wrote c.in_ok-size.size) c.in_ok-size.ensures refl (refuted c.holds_tail.ensures c.if-not-holds_tail.true)

pub returns-then-i-block_count : goal.returns-then-i-block_count
returns-then-i-block_count c =
    answers_accepted c.args.message.now c.args.buffer.now c.args.i (wrote c.in_ok-size.size) c.in_ok-size.ensures refl (confirmed c.holds_tail.ensures c.if-not-holds_tail.false) (search rules)

pub returns-else-i-block_count : goal.returns-else-i-block_count
returns-else-i-block_count c =
    answers_past c.args.message.now c.args.buffer.now c.args.i (wrote c.in_ok-size.size) c.in_ok-size.ensures refl (confirmed c.holds_tail.ensures c.if-not-holds_tail.false) (search rules)
