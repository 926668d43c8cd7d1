-- `all_zero` gathers the bytes' bits: all are zero exactly when no bit was gathered. Assumes nothing.
use Rattle.std.proofs.Common.{◌≡◌, ℕ, bit_or, fold, ◌∙◌, ap, rules}
use lib.Dec.{eqb}
use Rattle.buffers.proofs.Comparing.{bits_all}
use Rattle.buffers.proofs.all_zero.Goals as goal

pub returns : goal.returns
returns c =
    let all : c.fold.result ≡ fold bit_or 0 c.args.s.now = search rules in
    ap (λ (d : ℕ). eqb d 0) all ∙ bits_all c.args.s.now 0
