-- `xored` goes byte by byte. Assumes nothing.
use mathlib.Core.Path.{◌≡◌, ◌∙◌}
use native.Mathlib.Omega.{arith}
use borrow.Author.Rules.{rules}
use lib.ListN.{length}
use Rattle.mac.proofs.Blocks.{xored_next, xored_all}
use Rattle.mac.proofs.xored.Goals as goal

pub loop-byte-preserved : goal.loop-byte-preserved
loop-byte-preserved c = xored_next c.args.block c.loop-byte.byte-items c.args.pad c.loop-byte.byte-index c.loop-byte.invariant (search rules)

pub returns : goal.returns
returns c =
    let l : length c.args.block ≡ 64 = search rules in
    c.loop-byte.invariant ∙ rw (xored_all c.args.block c.args.pad c.loop-byte.byte-index (omega arith), l)
