-- `padding`: any two results that meet a contract coincide; and a contract is what is promised, of its own arguments. Assumes nothing.
use mathlib.Core.Path.{sym, ◌∙◌, ◌≡◌}
use mathlib.Core.Logic.Iff
use Prim.Native.Nat.{ℕ}
use mathlib.Core.List.{List}
use lib.ListN.{length}
use Rattle.refusal.specs.Table.{written_of}
use Rattle.refusal.proofs.Proved.{proved as refusal}
use Rattle.padding.specs.Padding.{block_count}
use Rattle.padding.specs.Writing.{tail_answer as answer_of_tail, tail_after, written, buffer_after}
use Rattle.coincide.specs.Coincide.{Coincide, CoincideAt, Means, Answers}
use Rattle.padding.specs.contracts
use Rattle.padding.proofs

pub tail_answer : Coincide contracts.tail_answer.ended proofs.tail_answer.Reads.Post
tail_answer κs a x y e f p q = refusal.told _ _ (p ∙ sym q)

pub pad : CoincideAt contracts.pad.ended (List ℕ) (λ κs e. e.0.now) proofs.pad.Reads.Post
pad κs a x y e f p q = (refusal.told _ _ (p.0 ∙ sym q.0), p.1 ∙ sym q.1)

pub write : CoincideAt contracts.write.ended (List ℕ) (λ κs e. e.1.0.now) proofs.write.Reads.Post
write κs a x y e f p q = (refusal.told _ _ (p.0 ∙ sym q.0), p.1 ∙ sym q.1)

pub block_count_means : Answers contracts.block_count.ended proofs.block_count.Reads.Post (λ κs a. block_count a.0.0)
block_count_means κs a r e = Iff.rfl

pub tail_answer_means : Means contracts.tail_answer.ended proofs.tail_answer.Reads.Post (λ κs a r e. written_of r ≡ answer_of_tail a.0.0 a.1.0)
tail_answer_means κs a r e = Iff.rfl

pub pad_means : Means contracts.pad.ended proofs.pad.Reads.Post
    (λ κs a r e. (written_of r ≡ answer_of_tail a.1.0.0 (length a.0.now)) × (e.0.now ≡ tail_after a.1.0.0 a.0.now))
pad_means κs a r e = Iff.rfl

pub write_means : Means contracts.write.ended proofs.write.Reads.Post
    (λ κs a r e. (written_of r ≡ written a.0.now a.1.0.now) × (e.1.0.now ≡ buffer_after a.0.now a.1.0.now))
write_means κs a r e = Iff.rfl
