-- `stated_bits` reads the last eight bytes as a number. Assumes nothing.
use mathlib.Core.Path.{◌∙◌}
use Rattle.padded.proofs.Numbers.{last_read}
use Rattle.padded.proofs.stated_bits.Goals as goal

pub returns : goal.returns
returns c =
    let last = rw c.unwrap.ensures at c.last_chunk.ensures.cases in
    c.from_be_bytes.ensures ∙ last_read _ _ last.1.same last.1.long
