-- `lines`: any two results that meet a contract coincide; and a contract is what is promised, of its own arguments. Assumes nothing.
use mathlib.Core.Path.{◌≡◌, sym, ◌∙◌}
use mathlib.Core.Logic.Iff
use Rattle.lines.specs.Reading.{number_by, stop_of, is_good, mark_at as mark_of, word_at as word_of}
use Rattle.lines.specs.Fields.{field_of, field_at as field_read, digest_of, digest_at as digest_read}
use Rattle.lines.specs.Lines.{line_of, note_line as note_read, header_line as header_read}
use Rattle.lines.proofs.Once.{stop_once, field_once, digest_once, line_once}
use Rattle.coincide.specs.Coincide.{Coincide, Means, Answers}
use Rattle.lines.specs.contracts
use Rattle.lines.proofs

pub is_good_means : Answers contracts.is_good.ended proofs.is_good.Reads.Post (λ κs a. is_good a.0)
is_good_means κs a r e = Iff.rfl

-- `Field::from`
pub FieldFromResultReadU32Fault-from_means : Answers contracts.FieldFromResultReadU32Fault.from.ended
    proofs.FieldFromResultReadU32Fault.from.Reads.Post (λ κs a. field_of a.0)
FieldFromResultReadU32Fault-from_means κs a r e = Iff.rfl

pub mark_at : Coincide contracts.mark_at.ended proofs.mark_at.Reads.Post
mark_at κs a x y e f p q = stop_once x y (p ∙ sym q)

pub mark_at_means : Means contracts.mark_at.ended proofs.mark_at.Reads.Post
    (λ κs a r e. stop_of r ≡ mark_of a.0.now a.1.0 a.1.1.0 (number_by a.1.1.1.0))
mark_at_means κs a r e = Iff.rfl

pub word_at : Coincide contracts.word_at.ended proofs.word_at.Reads.Post
word_at κs a x y e f p q = stop_once x y (p ∙ sym q)

pub word_at_means : Means contracts.word_at.ended proofs.word_at.Reads.Post
    (λ κs a r e. stop_of r ≡ word_of a.0.now a.1.0 a.1.1.0.now (number_by a.1.1.1.0))
word_at_means κs a r e = Iff.rfl

pub field_at : Coincide contracts.field_at.ended proofs.field_at.Reads.Post
field_at κs a x y e f p q = field_once x y (p ∙ sym q)

pub field_at_means : Means contracts.field_at.ended proofs.field_at.Reads.Post (λ κs a r e. field_of r ≡ field_read a.0.now a.1.0 a.1.1.0)
field_at_means κs a r e = Iff.rfl

pub digest_at : Coincide contracts.digest_at.ended proofs.digest_at.Reads.Post
digest_at κs a x y e f p q = digest_once x y (p ∙ sym q)

pub digest_at_means : Means contracts.digest_at.ended proofs.digest_at.Reads.Post (λ κs a r e. digest_of r ≡ digest_read a.0.now a.1.0)
digest_at_means κs a r e = Iff.rfl

pub note_line : Coincide contracts.note_line.ended proofs.note_line.Reads.Post
note_line κs a x y e f p q = line_once x y (p ∙ sym q)

pub note_line_means : Means contracts.note_line.ended proofs.note_line.Reads.Post (λ κs a r e. line_of r ≡ note_read a.0.now a.1.0)
note_line_means κs a r e = Iff.rfl

pub header_line : Coincide contracts.header_line.ended proofs.header_line.Reads.Post
header_line κs a x y e f p q = field_once x y (p ∙ sym q)

pub header_line_means : Means contracts.header_line.ended proofs.header_line.Reads.Post
    (λ κs a r e. field_of r ≡ header_read a.0.now a.1.0 a.1.1.0)
header_line_means κs a r e = Iff.rfl
