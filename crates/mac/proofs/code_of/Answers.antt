-- `code_of` is the formula; what refuses first stays. Assumes nothing.
use mathlib.Core.Path.{ap, ◌∙◌}
use mathlib.Core.List.{List, ◌++◌}
use Prim.Native.Nat.{ℕ}
use borrow.Author.Rules.{rules}
use Rattle.hash.specs.Digests.{digest}
use Rattle.mac.proofs.Calls.{key_refused, inside_refused, outside_codes}
use Rattle.mac.proofs.code_of.Goals as goal

pub returns-in_err-block : goal.returns-in_err-block
returns-in_err-block c = search (rules, key_refused c.args.key.now c.args.message.now c.in_err-block.field-0.0 c.in_err-block.ensures)

pub returns-in_err-inside : goal.returns-in_err-inside
returns-in_err-inside c =
    search (
      rules,
      inside_refused c.args.key.now c.args.message.now c.in_ok-block.block c.in_ok-block.ensures c.in_err-inside.field-0.0
          (c.in_err-inside.ensures ∙ ap (λ (b : List ℕ). digest (b ++ c.args.message.now)) c.xored.ensures),
    )

pub returns : goal.returns
returns c =
    c.digest_of_two-2.ensures
    ∙ ap (λ (b : List ℕ). digest (b ++ c.in_ok-inside.inside)) c.xored-2.ensures
    ∙ outside_codes c.args.key.now c.args.message.now c.in_ok-block.block c.in_ok-block.ensures c.in_ok-inside.inside
    (c.in_ok-inside.ensures ∙ ap (λ (b : List ℕ). digest (b ++ c.args.message.now)) c.xored.ensures)
