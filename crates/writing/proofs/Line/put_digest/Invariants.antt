-- `put_digest` puts two digits for each byte. The invariant: those of so many bytes have been put. Assumes nothing.
use Rattle.std.proofs.Common.{take}
use Rattle.writing.specs.Texts.{digest_text}
use Rattle.writing.specs.Putting.{Put}
use Rattle.writing.proofs.Line.put_digest.Given as goal

abbrev pub invariant-loop-byte : goal.invariant-loop-byte
invariant-loop-byte l = Put l.initial.self (digest_text (take l.byte-index l.digest)) l.self
