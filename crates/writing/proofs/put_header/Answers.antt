-- `put_header` puts the number of notes behind the word and the edition. Assumes nothing.
use borrow.Author.Rules.{rules}
use Rattle.writing.specs.Texts.{header_text}
use Rattle.writing.proofs.Putting.{put_then}
use Rattle.writing.proofs.put_header.Goals as goal

pub returns-then-fits : goal.returns-then-fits
unfolding header_text
returns-then-fits c = let put = put_then c.put_bytes.ensures c.put_field.ensures in search rules
