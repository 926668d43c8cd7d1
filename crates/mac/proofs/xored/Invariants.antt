-- `xored` goes byte by byte. The loop's invariant: so many bytes are xored already. Assumes nothing.
use mathlib.Core.Path.{◌≡◌}
use Rattle.mac.proofs.Blocks.{xored_to}
use Rattle.mac.proofs.xored.Given as goal

abbrev pub invariant-loop-byte : goal.invariant-loop-byte
invariant-loop-byte l = l.byte-items ≡ xored_to l.fn.block l.pad l.byte-index
