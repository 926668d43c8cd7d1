-- `mac_in_place`: any two results that meet a contract coincide; and the contract is a row of update's table, of its own state and piece. Assumes nothing.
use mathlib.Core.Path.{refl, sym, ◌∙◌}
use Rattle.refusal.specs.Table.{number_of}
use Rattle.refusal.proofs.Proved.{proved as refusal}
use Rattle.mac.specs.Promises.{UpdateRow}
use Rattle.mac.specs.declared.Code.{Code}
use Rattle.coincide.proofs.Coding.{taken}
use Rattle.coincide.specs.Coincide.{CoincideAt, Means, Says}
use Rattle.mac_in_place.specs.contracts
use Rattle.mac_in_place.proofs

abbrev pub update_says : Says contracts.update.ended (λ M 𝓤. contracts.update.clauses {M = M} {𝓤 = 𝓤})
update_says = record { claim = proofs.update.Reads.Post; stated = λ M 𝓤 𝓛 mem run κs a g r e. refl }

pub update : CoincideAt contracts.update.ended Code (λ κs e. e.0.now) update_says.claim
update κs a x y e f p q = (refusal.numbered x y (p.0 ∙ sym q.0), p.1 ∙ sym q.1)

pub update_rows : Means contracts.update.ended update_says.claim
    (λ κs a r e. UpdateRow a.0.now a.1.0.now (record { number = number_of r; state = e.0.now }))
update_rows κs a r e = taken a.0.now a.1.0.now (number_of r) e.0.now
