-- `keyed_in_place`: any two results that meet a contract coincide; and the contract is a row of what is promised, of its own key and text. Assumes nothing.
use mathlib.Core.Path.{refl, sym, ◌∙◌}
use Rattle.session.specs.declared.Session.{Session}
use Rattle.sheet.specs.Judging.{verdict_of}
use Rattle.sheet.proofs.Verdicts.{verdict_once}
use Rattle.keyed_promises.specs.Answers.{Answered}
use Rattle.keyed_promises.proofs.Proved.{proved as keyed}
use Rattle.coincide.specs.Coincide.{CoincideAt, Means, Says}
use Rattle.keyed_in_place.specs.contracts
use Rattle.keyed_in_place.proofs

abbrev pub read_into_says : Says contracts.read_into.ended (λ M 𝓤. contracts.read_into.clauses {M = M} {𝓤 = 𝓤})
read_into_says = record { claim = proofs.read_into.Reads.Post; stated = λ M 𝓤 𝓛 mem run κs a g r e. refl }

pub read_into : CoincideAt contracts.read_into.ended Session (λ κs e. e.0.now) read_into_says.claim
read_into κs a x y e f p q = (verdict_once x y (p.0 ∙ sym q.0), p.1 ∙ sym q.1)

pub read_into_rows : Means contracts.read_into.ended read_into_says.claim (λ κs a r e. Answered a.1.0.now a.1.1.0.now (verdict_of r) e.0.now)
read_into_rows κs a r e = keyed.answers a.1.0.now a.1.1.0.now (verdict_of r) e.0.now
