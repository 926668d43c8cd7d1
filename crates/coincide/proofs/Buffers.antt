-- `buffers`: any two results that meet a contract coincide; and a contract is what is promised, of its own arguments. Assumes nothing.
use mathlib.Core.Path.{refl, sym, ◌∙◌, ◌≡◌}
use mathlib.Core.Logic.Iff
use Prim.Native.Nat.{ℕ, ◌-◌}
use mathlib.Core.List.{List}
use lib.ListN.{replicate}
use Rattle.buffers.specs.Same.{same as equal, all_zero}
use Rattle.buffers.specs.Copy.{copied}
use Rattle.coincide.specs.Coincide.{CoincideAt, Means, Answers}
use Rattle.buffers.specs.contracts
use Rattle.buffers.proofs

pub copy : CoincideAt contracts.copy.ended (List ℕ) (λ κs e. e.0.now) proofs.copy.Reads.Post
copy κs a x y e f p q = (refl, p ∙ sym q)

pub clear : CoincideAt contracts.clear.ended (List ℕ) (λ κs e. e.0.now) proofs.clear.Reads.Post
clear κs a x y e f p q = (refl, p ∙ sym q)

pub same_means : Answers contracts.same.ended proofs.same.Reads.Post (λ κs a. equal a.0.now a.1.0.now)
same_means κs a r e = Iff.rfl

pub all_zero_means : Answers contracts.all_zero.ended proofs.all_zero.Reads.Post (λ κs a. all_zero a.0.now)
all_zero_means κs a r e = Iff.rfl

pub copy_means : Means contracts.copy.ended proofs.copy.Reads.Post (λ κs a r e. e.0.now ≡ copied a.0.now a.1.0 a.1.1.0.now)
copy_means κs a r e = Iff.rfl

pub clear_means : Means contracts.clear.ended proofs.clear.Reads.Post
    (λ κs a r e. e.0.now ≡ copied a.0.now a.1.0 (replicate (a.1.1.0 - a.1.0) 0))
clear_means κs a r e = Iff.rfl
