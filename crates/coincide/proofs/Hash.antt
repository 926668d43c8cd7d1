-- `hash`: any two results that meet a contract coincide; and a contract is what is promised, of its own arguments. Assumes nothing.
use mathlib.Core.Path.{sym, ◌∙◌, ◌≡◌}
use mathlib.Core.Logic.Iff
use mathlib.Core.List.{◌++◌}
use Rattle.hash.specs.State.{fresh, is_fresh, in_order}
use Rattle.hash.specs.Update.{update}
use Rattle.hash.specs.Digests.{finish, digest, compared, compare_message, compare_state}
use Rattle.hash.specs.Told.{updated_of, told_digest, compared_of}
use Rattle.hash.proofs.Proved.{proved as hashes}
use Rattle.coincide.specs.Coincide.{Coincide, Means, Answers}
use Rattle.hash.specs.contracts
use Rattle.hash.proofs

pub Hash-fresh_means : Answers contracts.Hash.fresh.ended proofs.Hash.fresh.Reads.Post (λ κs a. fresh)
Hash-fresh_means κs a r e = Iff.rfl

pub Hash-is_fresh_means : Answers contracts.Hash.is_fresh.ended proofs.Hash.is_fresh.Reads.Post (λ κs a. is_fresh a.0)
Hash-is_fresh_means κs a r e = Iff.rfl

pub Hash-in_order_means : Answers contracts.Hash.in_order.ended proofs.Hash.in_order.Reads.Post (λ κs a. in_order a.0)
Hash-in_order_means κs a r e = Iff.rfl

pub Hash-update : Coincide contracts.Hash.update.ended proofs.Hash.update.Reads.Post
Hash-update κs a x y e f p q = hashes.all_updated a.0 x y (p ∙ sym q)

pub Hash-update_means : Means contracts.Hash.update.ended proofs.Hash.update.Reads.Post
    (λ κs a r e. updated_of a.0 r ≡ update a.0 a.1.0.now)
Hash-update_means κs a r e = Iff.rfl

pub Hash-finish : Coincide contracts.Hash.finish.ended proofs.Hash.finish.Reads.Post
Hash-finish κs a x y e f p q = hashes.all_digested x y (p ∙ sym q)

pub Hash-finish_means : Means contracts.Hash.finish.ended proofs.Hash.finish.Reads.Post (λ κs a r e. told_digest r ≡ finish a.0)
Hash-finish_means κs a r e = Iff.rfl

pub Hash-matches : Coincide contracts.Hash.matches.ended proofs.Hash.matches.Reads.Post
Hash-matches κs a x y e f p q = hashes.all_compared x y (p ∙ sym q)

pub Hash-matches_means : Means contracts.Hash.matches.ended proofs.Hash.matches.Reads.Post
    (λ κs a r e. compared_of r ≡ compare_state a.0 a.1.0.now)
Hash-matches_means κs a r e = Iff.rfl

pub digest_of : Coincide contracts.digest_of.ended proofs.digest_of.Reads.Post
digest_of κs a x y e f p q = hashes.all_digested x y (p ∙ sym q)

pub digest_of_means : Means contracts.digest_of.ended proofs.digest_of.Reads.Post (λ κs a r e. told_digest r ≡ digest a.0.now)
digest_of_means κs a r e = Iff.rfl

pub matches : Coincide contracts.matches.ended proofs.matches.Reads.Post
matches κs a x y e f p q = hashes.all_compared x y (p ∙ sym q)

pub matches_means : Means contracts.matches.ended proofs.matches.Reads.Post (λ κs a r e. compared_of r ≡ compare_message a.0.now a.1.0.now)
matches_means κs a r e = Iff.rfl

pub digest_of_two : Coincide contracts.digest_of_two.ended proofs.digest_of_two.Reads.Post
digest_of_two κs a x y e f p q = hashes.all_digested x y (p ∙ sym q)

pub digest_of_two_means : Means contracts.digest_of_two.ended proofs.digest_of_two.Reads.Post
    (λ κs a r e. told_digest r ≡ digest (a.0.now ++ a.1.0.now))
digest_of_two_means κs a r e = Iff.rfl

pub digest_of_three : Coincide contracts.digest_of_three.ended proofs.digest_of_three.Reads.Post
digest_of_three κs a x y e f p q = hashes.all_digested x y (p ∙ sym q)

pub digest_of_three_means : Means contracts.digest_of_three.ended proofs.digest_of_three.Reads.Post
    (λ κs a r e. told_digest r ≡ digest (a.0.now ++ (a.1.0.now ++ a.1.1.0.now)))
digest_of_three_means κs a r e = Iff.rfl

pub compare : Coincide contracts.compare.ended proofs.compare.Reads.Post
compare κs a x y e f p q = hashes.all_compared x y (p ∙ sym q)

pub compare_means : Means contracts.compare.ended proofs.compare.Reads.Post
    (λ κs a r e. compared_of r ≡ compared (told_digest a.0) a.1.0.now)
compare_means κs a r e = Iff.rfl

pub against_means : Answers contracts.against.ended proofs.against.Reads.Post (λ κs a. compared a.0 a.1.0.now)
against_means κs a r e = Iff.rfl

pub Updated-told_means : Answers contracts.Updated.told.ended proofs.Updated.told.Reads.Post (λ κs a. updated_of a.0 a.1.0)
Updated-told_means κs a r e = Iff.rfl

-- `Digest::from` and `Compared::from`
pub DigestFromResultArrayU832Refusal-from_means : Answers contracts.DigestFromResultArrayU832Refusal.from.ended
    proofs.DigestFromResultArrayU832Refusal.from.Reads.Post (λ κs a. told_digest a.0)
DigestFromResultArrayU832Refusal-from_means κs a r e = Iff.rfl

pub ComparedFromResultBoolRefusal-from_means : Answers contracts.ComparedFromResultBoolRefusal.from.ended
    proofs.ComparedFromResultBoolRefusal.from.Reads.Post (λ κs a. compared_of a.0)
ComparedFromResultBoolRefusal-from_means κs a r e = Iff.rfl
