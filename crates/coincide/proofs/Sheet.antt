-- `sheet`: any two results that meet a contract coincide; and a contract is what is promised, of its own arguments. Assumes nothing.
use mathlib.Core.Path.{◌≡◌, sym, ◌∙◌}
use mathlib.Core.Logic.Iff
use Rattle.session.specs.Sessions.{empty_session}
use Rattle.lines.specs.Fields.{field_of}
use Rattle.lines.proofs.Once.{field_once}
use Rattle.sheet.specs.Judging.{entries_at, with_notes, header_at as header_read, header_number, note_number}
use Rattle.sheet.specs.Judging.{header_judged, entry_judged, line_judged, verdict_of, judged as verdict_at}
use Rattle.sheet.proofs.Verdicts.{verdict_once}
use Rattle.sheet.specs.Filling.{with_listed, start, listing}
use Rattle.sheet_promises.specs.Promises.{SheetRow}
use Rattle.coincide.proofs.Reading.{reads_whole}
use Rattle.coincide.specs.Coincide.{Coincide, Means, Answers}
use Rattle.sheet.specs.contracts
use Rattle.sheet.proofs

pub filled_means : Answers contracts.filled.ended proofs.filled.Reads.Post
    (λ κs a. with_listed (with_notes empty_session (entries_at a.1.1.0 a.0.now a.1.0)) a.1.1.1.0)
filled_means κs a r e = Iff.rfl

pub read : Coincide contracts.read.ended proofs.read.Reads.Post
read κs a x y e f p q = p ∙ sym q

pub read_rows : Means contracts.read.ended proofs.read.Reads.Post (λ κs a r e. SheetRow a.0.now r.verdict r.session)
read_rows κs a r e = reads_whole a.0.now r

pub header_at : Coincide contracts.header_at.ended proofs.header_at.Reads.Post
header_at κs a x y e f p q = field_once x y (p ∙ sym q)

pub header_at_means : Means contracts.header_at.ended proofs.header_at.Reads.Post (λ κs a r e. field_of r ≡ header_read a.0.now a.1.0)
header_at_means κs a r e = Iff.rfl

pub header_number_means : Answers contracts.header_number.ended proofs.header_number.Reads.Post (λ κs a. header_number a.0)
header_number_means κs a r e = Iff.rfl

pub header_judged_means : Answers contracts.header_judged.ended proofs.header_judged.Reads.Post (λ κs a. header_judged a.0)
header_judged_means κs a r e = Iff.rfl

pub entry_number_means : Answers contracts.entry_number.ended proofs.entry_number.Reads.Post (λ κs a. entry_judged a.0 a.1.0)
entry_number_means κs a r e = Iff.rfl

pub note_number_means : Answers contracts.note_number.ended proofs.note_number.Reads.Post (λ κs a. note_number a.0 a.1.0)
note_number_means κs a r e = Iff.rfl

pub line_judged_means : Answers contracts.line_judged.ended proofs.line_judged.Reads.Post (λ κs a. line_judged a.0 a.1.0)
line_judged_means κs a r e = Iff.rfl

pub judged : Coincide contracts.judged.ended proofs.judged.Reads.Post
judged κs a x y e f p q = verdict_once x y (p ∙ sym q)

pub judged_means : Means contracts.judged.ended proofs.judged.Reads.Post (λ κs a r e. verdict_of r ≡ verdict_at a.0.now a.1.0)
judged_means κs a r e = Iff.rfl

pub start_of_means : Answers contracts.start_of.ended proofs.start_of.Reads.Post (λ κs a. start a.0 a.1.0)
start_of_means κs a r e = Iff.rfl

pub listing_at_means : Answers contracts.listing_at.ended proofs.listing_at.Reads.Post (λ κs a. listing a.0.now a.1.0)
listing_at_means κs a r e = Iff.rfl

-- `Verdict::from`
pub VerdictFromResultUnitBad-from_means : Answers contracts.VerdictFromResultUnitBad.from.ended
    proofs.VerdictFromResultUnitBad.from.Reads.Post (λ κs a. verdict_of a.0)
VerdictFromResultUnitBad-from_means κs a r e = Iff.rfl
