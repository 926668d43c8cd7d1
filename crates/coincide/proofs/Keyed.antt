-- `keyed`: any two results that meet a contract coincide; and that of reading is a row of what is promised, of its own key and text. Assumes nothing.
use mathlib.Core.Path.{◌≡◌, sym, ◌∙◌}
use mathlib.Core.Logic.Iff
use Rattle.refusal.specs.Table.{number_of}
use Rattle.refusal.proofs.Telling.{numbered}
use Rattle.sheet.specs.Judging.{verdict_of as verdict}
use Rattle.sheet.proofs.Verdicts.{verdict_once}
use Rattle.keyed.specs.Keyed.{covered as covered_of, keyed_verdict}
use Rattle.keyed_promises.specs.Answers.{MacRow, Answered}
use Rattle.keyed_promises.proofs.Proved.{proved as keyed}
use Rattle.coincide.proofs.Coding.{keyed_whole}
use Rattle.coincide.specs.Coincide.{Coincide, PartsCoincide, Means, Answers}
use Rattle.keyed.specs.contracts
use Rattle.keyed.proofs

pub mac_number : Coincide contracts.mac_number.ended proofs.mac_number.Reads.Post
mac_number κs a x y e f p q = numbered x y (p ∙ sym q)

pub mac_number_rows : Means contracts.mac_number.ended proofs.mac_number.Reads.Post (λ κs a r e. MacRow a.0.now a.1.0.now (number_of r))
mac_number_rows κs a r e = keyed.mac_numbers a.0.now a.1.0.now (number_of r)

pub covered : PartsCoincide contracts.covered.ended (λ κs r. r) proofs.covered.Reads.Post
covered κs a x y e f p q = (p.0 ∙ sym q.0, p.1 ∙ sym q.1)

pub covered_means : Means contracts.covered.ended proofs.covered.Reads.Post (λ κs a r e. (r.now ≡ covered_of a.0.now a.1.0) × (r.ref_ptr ≡ a.0.ref_ptr))
covered_means κs a r e = Iff.rfl

pub verdict_of_means : Answers contracts.verdict_of.ended proofs.verdict_of.Reads.Post (λ κs a. keyed_verdict a.0 a.1.0)
verdict_of_means κs a r e = Iff.rfl

pub judged : Coincide contracts.judged.ended proofs.judged.Reads.Post
judged κs a x y e f p q = verdict_once x y (p ∙ sym q)

pub judged_means : Means contracts.judged.ended proofs.judged.Reads.Post (λ κs a r e. verdict r ≡ keyed_verdict (number_of a.0) (verdict a.1.0))
judged_means κs a r e = Iff.rfl

pub read : Coincide contracts.read.ended proofs.read.Reads.Post
read κs a x y e f p q = p ∙ sym q

pub read_rows : Means contracts.read.ended proofs.read.Reads.Post (λ κs a r e. Answered a.0.now a.1.0.now r.verdict r.session)
read_rows κs a r e = keyed_whole a.0.now a.1.0.now r
