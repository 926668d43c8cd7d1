-- `digest_of` is the definition's answer: the writer refuses just what is too long, and what it puts behind the whole blocks makes the padded message. Assumes nothing.
use mathlib.Core.Path.{sym, ap, ap₂, ◌∙◌}
use mathlib.Core.List.{List}
use Prim.Native.Nat.{ℕ}
use borrow.Author.Rules.{rules}
use lib.Seq.{length-take-le}
use Rattle.refusal.specs.Table.{accepted}
use Rattle.standard.specs.declared.Words.{Words}
use Rattle.standard.specs.Standard.{folded, hash_value}
use Rattle.hash.proofs.Ending.{write_refuses, message_holds, message_digest}
use Rattle.hash.proofs.digest_of.Goals as goal

pub returns-in_err-count : goal.returns-in_err-count
returns-in_err-count c = search (rules, write_refuses c.args.message.now c.in_err-count.field-0.0 c.in_err-count.ensures.value)

pub slice_bounds-last-end : goal.slice_bounds-last-end
slice_bounds-last-end c = (message_holds c.args.message.now _ _ c.in_ok-count.ensures.value c.in_ok-count.ensures.buffer_after).within

pub slice_bounds-ended-end : goal.slice_bounds-ended-end
slice_bounds-ended-end c = sym (length-take-le _ _ (message_holds c.args.message.now _ _ c.in_ok-count.ensures.value c.in_ok-count.ensures.buffer_after).within)

pub returns : goal.returns
returns c =
    let last = message_holds c.args.message.now _ _ c.in_ok-count.ensures.value c.in_ok-count.ensures.buffer_after in
    ap (λ (b : List ℕ). record { number = accepted; bytes = b })
    (c.ended.ensures ∙ ap₂ (λ (w : Words) (s : List ℕ). hash_value (folded w s)) c.fold.ensures last.are)
    ∙ message_digest c.args.message.now _ _ c.in_ok-count.ensures.value c.in_ok-count.ensures.buffer_after
