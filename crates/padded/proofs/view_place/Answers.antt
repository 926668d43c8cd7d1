-- `view_place` says where the block lies. Assumes nothing.
use Rattle.std.proofs.Common.{arith, rules}
use Rattle.padded.proofs.Viewed.{tail_room}
use Rattle.padded.proofs.Placed.{seen, unseen, in_neither_lem, in_message_lem, in_buffer_lem}
use Rattle.padded.proofs.view_place.Goals as goal

pub returns-in_err-ok : goal.returns-in_err-ok
returns-in_err-ok c =
    rw c.from_residual.ensures
    (in_neither_lem c.args.message.now c.args.buffer.now c.args.i (unseen c.args.message.now c.args.buffer.now c.args.i c.view_number.result c.view_number.ensures c.in_err-ok.ensures.value))

pub overflow_mul-result-else-i-inside : goal.overflow_mul-result-else-i-inside
overflow_mul-result-else-i-inside c =
    let ok = seen c.args.message.now c.args.buffer.now c.args.i c.view_number.result c.view_number.ensures _ c.in_ok-ok.ensures.value in
    omega (arith, tail_room c.args.message.now c.args.buffer.now c.args.i ok (search rules), c.well_formed)

pub returns-then-i-inside : goal.returns-then-i-inside
returns-then-i-inside c =
    let ok = seen c.args.message.now c.args.buffer.now c.args.i c.view_number.result c.view_number.ensures _ c.in_ok-ok.ensures.value in
    in_message_lem c.args.message.now c.args.buffer.now c.args.i ok (search rules)

pub returns-else-i-inside : goal.returns-else-i-inside
returns-else-i-inside c =
    let ok = seen c.args.message.now c.args.buffer.now c.args.i c.view_number.result c.view_number.ensures _ c.in_ok-ok.ensures.value in
    in_buffer_lem c.args.message.now c.args.buffer.now c.args.i ok (search rules)
