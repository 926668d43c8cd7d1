-- `finish` is the definition's answer: 9 for a state not in order, else the digest of the words once the kept bytes and their padding are folded. Assumes nothing.
use mathlib.Core.List.{List}
use mathlib.Core.Bool.{true}
use Prim.Native.Nat.{ℕ}
use borrow.Author.Rules.{rules}
use mathlib.Core.Path.{◌≡◌, sym, ap, ◌∙◌}
use lib.Seq.{length-take-le}
use Rattle.refusal.specs.Table.{accepted}
use Rattle.standard.specs.Standard.{folded, hash_value}
use Rattle.hash.specs.State.{in_order}
use Rattle.hash.proofs.Ending.{state_padded, state_holds}
use Rattle.hash.proofs.Cutting.{finish_spoilt, finish_folds}
use Rattle.hash.proofs.Hash.finish.Goals as goal

pub returns-then-not-ordered : goal.returns-then-not-ordered
returns-then-not-ordered c = sym (finish_spoilt c.args.self (search rules))

pub unwrap-count-requires : goal.unwrap-count-requires
unwrap-count-requires c =
    let o : in_order c.args.self ≡ true = search rules in
    search (rules, state_padded c.args.self o _ c.copy.ensures c.pad.ensures.value)

pub slice_bounds-last-end : goal.slice_bounds-last-end
slice_bounds-last-end c =
    let o : in_order c.args.self ≡ true = search rules in
    (state_holds c.args.self o _ c.copy.ensures _ c.pad.ensures.value c.unwrap-count.ensures c.pad.ensures.buffer_after).within

pub slice_bounds-ended-end : goal.slice_bounds-ended-end
slice_bounds-ended-end c =
    let o : in_order c.args.self ≡ true = search rules in
    sym (length-take-le _ _ (state_holds c.args.self o _ c.copy.ensures _ c.pad.ensures.value c.unwrap-count.ensures c.pad.ensures.buffer_after).within)

pub returns : goal.returns
returns c =
    let o : in_order c.args.self ≡ true = search rules in
    let last = state_holds c.args.self o _ c.copy.ensures _ c.pad.ensures.value c.unwrap-count.ensures c.pad.ensures.buffer_after in
    ap (λ (b : List ℕ). record { number = accepted; bytes = b }) (c.ended.ensures ∙ ap (λ (s : List ℕ). hash_value (folded c.args.self.words s)) last.are)
    ∙ sym (finish_folds c.args.self o)
