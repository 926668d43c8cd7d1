-- `digest_at` reads 64 digits, two for each byte. Assumes nothing.
use mathlib.Core.Path.{◌∙◌}
use Rattle.lines.proofs.Digests.{one_byte}
use borrow.Author.Rules.{rules}
use Rattle.lines.proofs.digest_at.Goals as goal

pub loop-byte-preserved : goal.loop-byte-preserved
loop-byte-preserved c =
    let inv = c.loop-byte.invariant in
    (search rules, inv.1 ∙ one_byte _ _ _ _ c.loop-byte-test.true _ c.in_ok-high.ensures _ c.in_ok-low.ensures inv.0)
