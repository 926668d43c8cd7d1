-- `put_digest` puts two digits for each byte. Assumes nothing.
use native.Mathlib.Omega.{arith}
use borrow.Author.Rules.{rules}
use Rattle.writing.specs.Texts.{digest_text}
use Rattle.writing.proofs.Putting.{none_put, byte_more}
use Rattle.writing.proofs.Line.put_digest.Goals as goal

pub loop-byte-init : goal.loop-byte-init
unfolding digest_text
loop-byte-init c = search (rules, arith, none_put)

pub loop-byte-preserved : goal.loop-byte-preserved
loop-byte-preserved c = search (rules, byte_more)
