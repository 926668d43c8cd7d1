-- `reader`: any two results that meet a contract coincide; and a contract is what is promised, of its own arguments. Assumes nothing.
use mathlib.Core.Path.{◌≡◌, refl, sym, ◌∙◌}
use mathlib.Core.Logic.Iff
use Rattle.lines.specs.Fields.{field_of}
use Rattle.lines.specs.Lines.{line_of}
use Rattle.lines.proofs.Once.{field_once, line_once}
use Rattle.reader.specs.Reader.{begin_of, header_read, line_read}
use Rattle.reader.specs.declared.SheetReader.{SheetReader}
use Rattle.sheet.specs.Judging.{verdict_of, judged}
use Rattle.sheet.proofs.Verdicts.{verdict_once}
use Rattle.coincide.specs.Coincide.{Coincide, CoincideAt, Means, Says, Answers}
use Rattle.reader.specs.contracts
use Rattle.reader.proofs

abbrev pub SheetReader-begin_says : Says contracts.SheetReader.begin.ended (λ M 𝓤. contracts.SheetReader.begin.clauses {M = M} {𝓤 = 𝓤})
SheetReader-begin_says = record { claim = proofs.SheetReader.begin.Reads.Post; stated = λ M 𝓤 𝓛 mem run κs a g r e. refl }

abbrev pub SheetReader-judge_says : Says contracts.SheetReader.judge.ended (λ M 𝓤. contracts.SheetReader.judge.clauses {M = M} {𝓤 = 𝓤})
SheetReader-judge_says = record { claim = proofs.SheetReader.judge.Reads.Post; stated = λ M 𝓤 𝓛 mem run κs a g r e. refl }

abbrev pub SheetReader-header_says : Says contracts.SheetReader.header.ended (λ M 𝓤. contracts.SheetReader.header.clauses {M = M} {𝓤 = 𝓤})
SheetReader-header_says = record { claim = proofs.SheetReader.header.Reads.Post; stated = λ M 𝓤 𝓛 mem run κs a g r e. refl }

abbrev pub SheetReader-next_line_says : Says contracts.SheetReader.next_line.ended (λ M 𝓤. contracts.SheetReader.next_line.clauses {M = M} {𝓤 = 𝓤})
SheetReader-next_line_says = record { claim = proofs.SheetReader.next_line.Reads.Post; stated = λ M 𝓤 𝓛 mem run κs a g r e. refl }

pub SheetReader-begin_means : Answers contracts.SheetReader.begin.ended SheetReader-begin_says.claim (λ κs a. begin_of a.0)
SheetReader-begin_means κs a r e = Iff.rfl

pub SheetReader-judge : Coincide contracts.SheetReader.judge.ended SheetReader-judge_says.claim
SheetReader-judge κs a x y e f p q = verdict_once x y (p ∙ sym q)

pub SheetReader-judge_means : Means contracts.SheetReader.judge.ended SheetReader-judge_says.claim
    (λ κs a r e. verdict_of r ≡ judged a.0.now.text.now a.0.now.at)
SheetReader-judge_means κs a r e = Iff.rfl

pub SheetReader-header : CoincideAt contracts.SheetReader.header.ended SheetReader (λ κs e. e.0.now) SheetReader-header_says.claim
SheetReader-header κs a x y e f p q = (field_once x y (p.0 ∙ sym q.0), p.1 ∙ sym q.1)

pub SheetReader-header_means : Means contracts.SheetReader.header.ended SheetReader-header_says.claim
    (λ κs a r e. (field_of r ≡ (header_read a.0.now).field) × (e.0.now ≡ (header_read a.0.now).rest))
SheetReader-header_means κs a r e = Iff.rfl

pub SheetReader-next_line : CoincideAt contracts.SheetReader.next_line.ended SheetReader (λ κs e. e.0.now) SheetReader-next_line_says.claim
SheetReader-next_line κs a x y e f p q = (line_once x y (p.0 ∙ sym q.0), p.1 ∙ sym q.1)

pub SheetReader-next_line_means : Means contracts.SheetReader.next_line.ended SheetReader-next_line_says.claim
    (λ κs a r e. (line_of r ≡ (line_read a.0.now).line) × (e.0.now ≡ (line_read a.0.now).rest))
SheetReader-next_line_means κs a r e = Iff.rfl
