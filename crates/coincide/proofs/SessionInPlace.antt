-- `session_in_place`: any two results that meet a contract coincide; and a contract is what is promised, of its own arguments. Assumes nothing.
use mathlib.Core.Path.{◌≡◌, refl, sym, ◌∙◌}
use mathlib.Core.Bool.{true}
use mathlib.Core.Logic.{◌↔◌}
use mathlib.Core.List.{[]}
use Rattle.session.specs.Promises.{Row, AskRow}
use Rattle.session.specs.declared.Session.{Session}
use Rattle.session.proofs.Proved.{proved as session}
use Rattle.sheet.specs.Judging.{verdict_of}
use Rattle.sheet.proofs.Verdicts.{verdict_once}
use Rattle.sheet_promises.specs.Promises.{SheetRow, Lists}
use Rattle.coincide.proofs.Tells.{tells}
use Rattle.coincide.proofs.Reading.{reads}
use Rattle.coincide.proofs.Session.{none_means, lit_means, delivered}
use Rattle.coincide.specs.Coincide.{Coincide, CoincideAt, Means, Says}
use Rattle.session_in_place.specs.contracts
use Rattle.session_in_place.proofs

abbrev pub deliver_says : Says contracts.deliver.ended (λ M 𝓤. contracts.deliver.clauses {M = M} {𝓤 = 𝓤})
deliver_says = record { claim = proofs.deliver.Reads.Post; stated = λ M 𝓤 𝓛 mem run κs a g r e. refl }

pub deliver : CoincideAt contracts.deliver.ended Session (λ κs e. e.0.now) deliver_says.claim
deliver κs a x y e f p q = (p.0 ∙ sym q.0, p.1 ∙ sym q.1)

pub deliver_rows : Means contracts.deliver.ended deliver_says.claim
    (λ κs a r e. Row a.0.now a.1.0 a.1.1.0.now (record { answer = r; session = e.0.now }))
deliver_rows κs a r e = delivered a.0.now a.1.0 a.1.1.0.now r e.0.now

abbrev pub ask_says : Says contracts.ask.ended (λ M 𝓤. contracts.ask.clauses {M = M} {𝓤 = 𝓤})
ask_says = record { claim = proofs.ask.Reads.Post; stated = λ M 𝓤 𝓛 mem run κs a g r e. refl }

pub ask : Coincide contracts.ask.ended ask_says.claim
ask κs a x y e f p q = p ∙ sym q

pub ask_rows : Means contracts.ask.ended ask_says.claim (λ κs a r e. AskRow a.0.now a.1.0 r)
ask_rows κs a r e = session.ask_table a.0.now a.1.0 r

abbrev pub ready_says : Says contracts.ready.ended (λ M 𝓤. contracts.ready.clauses {M = M} {𝓤 = 𝓤})
ready_says = record { claim = proofs.ready.Reads.Post; stated = λ M 𝓤 𝓛 mem run κs a g r e. refl }

pub ready : Coincide contracts.ready.ended ready_says.claim
ready κs a x y e f p q = p ∙ sym q

pub ready_means : Means contracts.ready.ended ready_says.claim
    (λ κs a r e. (r ≡ true) ↔ ((a.0.now.listed ≡ a.0.now.opened) × (a.0.now.opened ≡ 0 → ⊥)))
ready_means κs a r e = tells _ r (lit_means a.0.now)

abbrev pub list_none_says : Says contracts.list_none.ended (λ M 𝓤. contracts.list_none.clauses {M = M} {𝓤 = 𝓤})
list_none_says = record { claim = proofs.list_none.Reads.Post; stated = λ M 𝓤 𝓛 mem run κs a g r e. refl }

pub list_none : CoincideAt contracts.list_none.ended Session (λ κs e. e.0.now) list_none_says.claim
list_none κs a x y e f p q = (refl, p ∙ sym q)

pub list_none_means : Means contracts.list_none.ended list_none_says.claim (λ κs a r e. Lists e.0.now [])
list_none_means κs a r e = none_means e.0.now

abbrev pub read_into_says : Says contracts.read_into.ended (λ M 𝓤. contracts.read_into.clauses {M = M} {𝓤 = 𝓤})
read_into_says = record { claim = proofs.read_into.Reads.Post; stated = λ M 𝓤 𝓛 mem run κs a g r e. refl }

pub read_into : CoincideAt contracts.read_into.ended Session (λ κs e. e.0.now) read_into_says.claim
read_into κs a x y e f p q = (verdict_once x y (p.0 ∙ sym q.0), p.1 ∙ sym q.1)

pub read_into_rows : Means contracts.read_into.ended read_into_says.claim (λ κs a r e. SheetRow a.1.0.now (verdict_of r) e.0.now)
read_into_rows κs a r e = reads a.1.0.now (verdict_of r) e.0.now
