-- `decimal`: any two results that meet a contract coincide; and a contract is what is promised, of its own arguments. Assumes nothing.
use mathlib.Core.Path.{sym, ◌∙◌, ◌≡◌}
use mathlib.Core.Logic.Iff
use Prim.Native.Nat.{ℕ}
use mathlib.Core.List.{List}
use lib.ListN.{length}
use Rattle.buffers.specs.Copy.{copied}
use Rattle.decimal.specs.Reading.{numeral_at}
use Rattle.decimal.specs.Writing.{decimal, figures_of}
use Rattle.coincide.specs.Coincide.{CoincideAt, Means, Answers}
use Rattle.decimal.specs.contracts
use Rattle.decimal.proofs

pub write : CoincideAt contracts.write.ended (List ℕ) (λ κs e. e.0.now) proofs.write.Reads.Post
write κs a x y e f p q = (p.0 ∙ sym q.0, p.1 ∙ sym q.1)

pub read_means : Answers contracts.read.ended proofs.read.Reads.Post (λ κs a. numeral_at a.0.now a.1.0)
read_means κs a r e = Iff.rfl

pub figures_of_means : Answers contracts.figures_of.ended proofs.figures_of.Reads.Post (λ κs a. figures_of a.0)
figures_of_means κs a r e = Iff.rfl

pub write_means : Means contracts.write.ended proofs.write.Reads.Post
    (λ κs a r e. (r ≡ length (decimal a.1.1.0)) × (e.0.now ≡ copied a.0.now a.1.0 (decimal a.1.1.0)))
write_means κs a r e = Iff.rfl
