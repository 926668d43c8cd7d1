-- `report`: any two results that meet a contract coincide; and a contract is what is promised, of its own arguments. Assumes nothing.
use mathlib.Core.Logic.Iff
use Rattle.texts.specs.Texts.{text_of}
use Rattle.report.specs.Report.{note_line, refused_line, report}
use Rattle.coincide.specs.Coincide.{Answers}
use Rattle.report.specs.contracts
use Rattle.report.proofs

pub note_line_means : Answers contracts.note_line.ended proofs.note_line.Reads.Post (λ κs a. text_of (note_line a.0 a.1.0))
note_line_means κs a r e = Iff.rfl

pub refused_line_means : Answers contracts.refused_line.ended proofs.refused_line.Reads.Post (λ κs a. text_of (refused_line a.0 a.1.0))
refused_line_means κs a r e = Iff.rfl

pub session_lines_means : Answers contracts.session_lines.ended proofs.session_lines.Reads.Post (λ κs a. text_of (report a.0))
session_lines_means κs a r e = Iff.rfl
