-- `write` copies the message's last bytes to the front and pads behind them, or leaves the buffer alone where the answer refuses. Assumes nothing.
use mathlib.Core.Path.{refl, sym, ◌∙◌}
use native.Mathlib.Omega.{arith}
use borrow.Author.Rules.{rules}
use lib.ListN.{length-take, length-drop}
use Rattle.refusal.specs.Table.{refused_by, number_by, wrote}
use Rattle.refusal.proofs.Telling.{not_accepted}
use Rattle.padding.specs.Writing.{written}
use Rattle.padding.proofs.Wholes.{unwritten, last_fits, written_is, written_leaves}
use Rattle.padding.proofs.write.Goals as goal

pub returns-in_err-tail_answer-clause-value : goal.returns-in_err-tail_answer-clause-value
unfolding written
returns-in_err-tail_answer-clause-value c = search rules

pub returns-in_err-tail_answer-clause-buffer_after : goal.returns-in_err-tail_answer-clause-buffer_after
returns-in_err-tail_answer-clause-buffer_after c =
    let why = c.in_err-tail_answer.field-0.0 in
    unwritten _ _ (refused_by (number_by why)) c.in_err-tail_answer.ensures (not_accepted why)

pub lay-requires : goal.lay-requires
lay-requires c =
    let room = last_fits _ _ (wrote c.in_ok-tail_answer.field-0) c.in_ok-tail_answer.ensures refl in
    simp (length-take, length-drop) (omega arith)

pub returns-clause-value : goal.returns-clause-value
returns-clause-value c = c.pad.ensures.value ∙ written_is _ _ (wrote c.in_ok-tail_answer.field-0) c.in_ok-tail_answer.ensures refl _ c.lay.ensures

pub returns-clause-buffer_after : goal.returns-clause-buffer_after
returns-clause-buffer_after c = c.pad.ensures.buffer_after ∙ written_leaves _ _ (wrote c.in_ok-tail_answer.field-0) c.in_ok-tail_answer.ensures refl _ c.lay.ensures
