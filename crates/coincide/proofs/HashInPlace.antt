-- `hash_in_place`: any two results that meet a contract coincide; and a contract is what is promised, of its own arguments. Assumes nothing.
use mathlib.Core.Path.{refl, sym, ◌∙◌, ◌≡◌}
use mathlib.Core.Logic.Iff
use Rattle.refusal.specs.Table.{number_of}
use Rattle.refusal.proofs.Proved.{proved as refusal}
use Rattle.hash_in_place.specs.declared.Card.{Card}
use Rattle.hash.specs.declared.Hash.{Hash}
use Rattle.hash.specs.Update.{update as updated}
use Rattle.coincide.specs.Coincide.{CoincideAt, Says, Means}
use Rattle.hash_in_place.specs.contracts
use Rattle.hash_in_place.proofs

abbrev pub update_says : Says contracts.update.ended (λ M 𝓤. contracts.update.clauses {M = M} {𝓤 = 𝓤})
update_says = record { claim = proofs.update.Reads.Post; stated = λ M 𝓤 𝓛 mem run κs a g r e. refl }

pub update : CoincideAt contracts.update.ended Hash (λ κs e. e.0.now) update_says.claim
update κs a x y e f p q = (refusal.numbered x y (p.0 ∙ sym q.0), p.1 ∙ sym q.1)

abbrev pub Card-feed_says : Says contracts.Card.feed.ended (λ M 𝓤. contracts.Card.feed.clauses {M = M} {𝓤 = 𝓤})
Card-feed_says = record { claim = proofs.Card.feed.Reads.Post; stated = λ M 𝓤 𝓛 mem run κs a g r e. refl }

pub Card-feed : CoincideAt contracts.Card.feed.ended Card (λ κs e. e.0.now) Card-feed_says.claim
Card-feed κs a x y e f p q = (refusal.numbered x y (p.0 ∙ sym q.0), p.1 ∙ sym q.1)

pub update_means : Means contracts.update.ended update_says.claim
    (λ κs a r e. (number_of r ≡ (updated a.0.now a.1.0.now).number) × (e.0.now ≡ (updated a.0.now a.1.0.now).state))
update_means κs a r e = Iff.rfl

pub Card-feed_means : Means contracts.Card.feed.ended Card-feed_says.claim
    (λ κs a r e. (number_of r ≡ (updated a.0.now.state a.1.0.now).number) × (e.0.now ≡ record { state = (updated a.0.now.state a.1.0.now).state }))
Card-feed_means κs a r e = Iff.rfl
