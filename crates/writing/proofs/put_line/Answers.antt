-- `put_line` puts field behind field. Assumes nothing.
use borrow.Author.Rules.{rules}
use Rattle.writing.specs.Texts.{line_text}
use Rattle.writing.proofs.Putting.{put_then}
use Rattle.writing.proofs.put_line.Goals as goal

pub returns-then-fits : goal.returns-then-fits
unfolding line_text
returns-then-fits c =
    let put = put_then c.put_field.ensures (put_then c.put_field-then-fits.ensures (put_then c.put_field-then-fits-2.ensures
    (put_then c.put_field-then-fits-3.ensures (put_then c.put_digest.ensures c.put_byte.ensures)))) in
    search rules
