-- `remove_part` lends the first so many bytes, where they lie. Assumes nothing.
use mathlib.Core.Path.{refl, sym, ap}
use native.Mathlib.Omega.{arith}
use lib.ListN.{take}
use lib.Seq.{length-take-le}
use Rattle.padded.specs.Removing.{remove_part}
use Rattle.padded.proofs.Removed.{length_within}
use Rattle.padded.proofs.remove_part.Goals as goal

pub slice_bounds-result-end : goal.slice_bounds-result-end
slice_bounds-result-end c =
    let bytes = c.args.bytes.now in
    sym (length-take-le _ _ (omega (arith, length_within bytes, c.remove_length.ensures)))

pub returns : goal.returns
unfolding remove_part
returns c = record { result_value = ap (λ m. take m c.args.bytes.now) c.remove_length.ensures; ref_ptr_value = refl }
