-- `put_field` puts a byte behind a number. Assumes nothing.
use borrow.Author.Rules.{rules}
use Rattle.writing.specs.Texts.{field_text}
use Rattle.writing.proofs.Putting.{put_then}
use Rattle.writing.proofs.Line.put_field.Goals as goal

pub returns : goal.returns
unfolding field_text
returns c = search (rules, put_then)
