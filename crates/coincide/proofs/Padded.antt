-- `padded`: any two results that meet a contract coincide; and a contract is what is promised, of its own arguments. Assumes nothing.
use mathlib.Core.Path.{sym, ◌∙◌, ◌≡◌}
use mathlib.Core.Logic.Iff
use Rattle.refusal.specs.Table.{number_of}
use Rattle.refusal.proofs.Proved.{proved as refusal}
use Rattle.padded.specs.Viewing.{view_number as number_viewed, view_part as part_viewed, view_place as place_viewed, view_address, place_of}
use Rattle.padded.specs.Removing.{remove_number as number_kept, remove_length, remove_part as part_kept}
use Rattle.padded.proofs.Proved.{proved as padded}
use Rattle.coincide.specs.Coincide.{Coincide, PartsCoincide, Means, Answers}
use Rattle.padded.specs.contracts
use Rattle.padded.proofs

pub view_part : PartsCoincide contracts.view_part.ended (λ κs r. r) proofs.view_part.Reads.Post
view_part κs a x y e f p q = (p.0 ∙ sym q.0, p.1 ∙ sym q.1)

pub remove_part : PartsCoincide contracts.remove_part.ended (λ κs r. r) proofs.remove_part.Reads.Post
remove_part κs a x y e f p q = (p.0 ∙ sym q.0, p.1 ∙ sym q.1)

pub view_number : Coincide contracts.view_number.ended proofs.view_number.Reads.Post
view_number κs a x y e f p q = refusal.numbered _ _ (p ∙ sym q)

pub view_place : Coincide contracts.view_place.ended proofs.view_place.Reads.Post
view_place κs a x y e f p q = padded.place_told _ _ (p ∙ sym q)

pub remove_number : Coincide contracts.remove_number.ended proofs.remove_number.Reads.Post
remove_number κs a x y e f p q = refusal.numbered _ _ (p ∙ sym q)

pub view_number_means : Means contracts.view_number.ended proofs.view_number.Reads.Post
    (λ κs a r e. number_of r ≡ number_viewed a.0.now a.1.0.now a.1.1.0)
view_number_means κs a r e = Iff.rfl

pub view_place_means : Means contracts.view_place.ended proofs.view_place.Reads.Post
    (λ κs a r e. place_of r ≡ place_viewed a.0.now a.1.0.now a.1.1.0)
view_place_means κs a r e = Iff.rfl

pub view_part_means : Means contracts.view_part.ended proofs.view_part.Reads.Post
    (λ κs a r e. (r.now ≡ part_viewed a.0.now a.1.0.now a.1.1.0) × (r.ref_ptr ≡ view_address a.0 a.1.0 a.1.1.0))
view_part_means κs a r e = Iff.rfl

-- `Place::from`
pub PlaceFromOptionBlock-from_means : Answers contracts.PlaceFromOptionBlock.from.ended proofs.PlaceFromOptionBlock.from.Reads.Post (λ κs a. place_of a.0)
PlaceFromOptionBlock-from_means κs a r e = Iff.rfl

pub remove_number_means : Means contracts.remove_number.ended proofs.remove_number.Reads.Post (λ κs a r e. number_of r ≡ number_kept a.0.now)
remove_number_means κs a r e = Iff.rfl

pub remove_length_means : Answers contracts.remove_length.ended proofs.remove_length.Reads.Post (λ κs a. remove_length a.0.now)
remove_length_means κs a r e = Iff.rfl

pub remove_part_means : Means contracts.remove_part.ended proofs.remove_part.Reads.Post
    (λ κs a r e. (r.now ≡ part_kept a.0.now) × (r.ref_ptr ≡ a.0.ref_ptr))
remove_part_means κs a r e = Iff.rfl
