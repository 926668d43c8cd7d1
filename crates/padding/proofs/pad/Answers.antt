-- `pad` writes the padding behind the bytes that stand in the buffer, or leaves it alone where the answer refuses. Assumes nothing.
use mathlib.Core.Path.{refl, sym, ◌∙◌}
use Rattle.refusal.specs.Table.{refused_by, number_by, wrote, too_long}
use Rattle.refusal.proofs.Telling.{not_accepted}
use Rattle.refusal.specs.declared.Refusal.TheVariants
use Rattle.units.proofs.Exact.{many}
use Rattle.padding.proofs.Tails.{refused_long, left_alone, starts, ends, big, padded_behind}
use Rattle.padding.proofs.pad.Goals as goal

pub returns-in_default-clause-value : goal.returns-in_default-clause-value
returns-in_default-clause-value c = sym (refused_long _ _ (many c.args.m (sym c.in_default.ensures)))

pub returns-in_default-clause-buffer_after : goal.returns-in_default-clause-buffer_after
returns-in_default-clause-buffer_after c =
    left_alone _ _ (refused_by too_long) (sym (refused_long _ _ (many c.args.m (sym c.in_default.ensures)))) (not_accepted TheVariants.TooLong)

pub returns-in_err-count-clause-buffer_after : goal.returns-in_err-count-clause-buffer_after
returns-in_err-count-clause-buffer_after c =
    let why = c.in_err-count.field-0.0 in
    left_alone _ _ (refused_by (number_by why)) c.in_err-count.ensures (not_accepted why)

pub overflow_sub-count : goal.overflow_sub-count
overflow_sub-count c = big _ _ (wrote c.in_ok-count.count) c.in_ok-count.ensures refl

pub close-requires : goal.close-requires
close-requires c =
    let answer = wrote c.in_ok-count.count in
    (starts _ _ answer c.in_ok-count.ensures refl, ends _ _ answer c.in_ok-count.ensures refl)

pub returns-clause-buffer_after : goal.returns-clause-buffer_after
returns-clause-buffer_after c =
    c.close.ensures ∙ padded_behind _ _ (wrote c.in_ok-count.count) c.in_ok-count.ensures refl c.in-Some.length (sym c.in-Some.ensures)
