-- `view_part` lends the bytes of the block's place. Assumes nothing.
use Rattle.std.proofs.Common.{refl, arith}
use native.Mathlib.Nat.{zero-add}
use Rattle.padded.proofs.Lending.{ends, message_part, buffer_part, message_address, buffer_address}
use Rattle.padded.proofs.view_part.Goals as goal

pub overflow_add-result : goal.overflow_add-result
overflow_add-result c =
    let there = rw c.in-Some-InMessage.field-0-is at c.in-Some-InMessage.ensures in
    omega (arith, (ends _ _ _ _ there).of_message refl)

pub slice_bounds-result-end : goal.slice_bounds-result-end
slice_bounds-result-end c =
    let there = rw c.in-Some-InMessage.field-0-is at c.in-Some-InMessage.ensures in
    (ends _ _ _ _ there).of_message refl

pub returns-in-Some-InMessage-clause-result_value : goal.returns-in-Some-InMessage-clause-result_value
returns-in-Some-InMessage-clause-result_value c =
    let there = rw c.in-Some-InMessage.field-0-is at c.in-Some-InMessage.ensures in
    message_part _ _ _ _ there refl

pub returns-in-Some-InMessage-clause-ref_ptr_value : goal.returns-in-Some-InMessage-clause-ref_ptr_value
returns-in-Some-InMessage-clause-ref_ptr_value c =
    let there = rw c.in-Some-InMessage.field-0-is at c.in-Some-InMessage.ensures in
    message_address _ _ _ _ there refl

pub overflow_add-result-in-Some-InBuffer : goal.overflow_add-result-in-Some-InBuffer
overflow_add-result-in-Some-InBuffer c =
    let there = rw c.in-Some-InBuffer.field-0-is at c.in-Some-InBuffer.ensures in
    omega (arith, (ends _ _ _ _ there).of_buffer (λ z. omega arith))

pub slice_bounds-result-end-in-Some-InBuffer : goal.slice_bounds-result-end-in-Some-InBuffer
slice_bounds-result-end-in-Some-InBuffer c =
    let there = rw c.in-Some-InBuffer.field-0-is at c.in-Some-InBuffer.ensures in
    (ends _ _ _ _ there).of_buffer (λ z. omega arith)

pub returns-in-Some-InBuffer-clause-result_value : goal.returns-in-Some-InBuffer-clause-result_value
returns-in-Some-InBuffer-clause-result_value c =
    let there = rw c.in-Some-InBuffer.field-0-is at c.in-Some-InBuffer.ensures in
    buffer_part _ _ _ _ there (λ z. omega arith)

pub returns-in-Some-InBuffer-clause-ref_ptr_value : goal.returns-in-Some-InBuffer-clause-ref_ptr_value
returns-in-Some-InBuffer-clause-ref_ptr_value c =
    let there = rw c.in-Some-InBuffer.field-0-is at c.in-Some-InBuffer.ensures in
    buffer_address _ _ _ _ there (λ z. omega arith)

pub returns-in-None-clause-result_value : goal.returns-in-None-clause-result_value
returns-in-None-clause-result_value c = buffer_part _ _ _ _ c.in-None.ensures (λ z. omega arith)

pub returns-in-None-clause-ref_ptr_value : goal.returns-in-None-clause-ref_ptr_value
returns-in-None-clause-ref_ptr_value c = rw zero-add at (buffer_address c.args.message c.args.buffer c.args.i _ c.in-None.ensures (λ z. omega arith))
