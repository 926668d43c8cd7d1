-- The crate's promises, proved. Assumes nothing.
use mathlib.Core.Path.{◌≡◌, sym, ap, ◌∙◌}
use mathlib.Core.List.{List}
use mathlib.Core.Bool.{true}
use Prim.Native.Nat.{ℕ, ◌<◌}
use lib.ListN.{length, get_or, replicate, length-replicate, get_or-replicate}
use lib.Seq.{ext_get_or}
use Rattle.buffers.specs.Same.{all_zero}
use Rattle.buffers.specs.Promises.{Promises}
use Rattle.buffers.proofs.Comparing.{same_equal, equal_same}
use Rattle.buffers.proofs.Copied.{copied_there, copied_not}

module _ (bytes : List ℕ) where
  each_zero : all_zero bytes ≡ true → (i : ℕ) → i < length bytes → get_or bytes i 0 ≡ 0
  each_zero h i l =
      ap (λ (s : List ℕ). get_or s i 0) (same_equal bytes (replicate (length bytes) 0) h) ∙ get_or-replicate (length bytes) i 0 0 l

  zero_each : ((i : ℕ) → i < length bytes → get_or bytes i 0 ≡ 0) → all_zero bytes ≡ true
  zero_each f =
      equal_same bytes (replicate (length bytes) 0)
      (ext_get_or 0 bytes (replicate (length bytes) 0) (sym (length-replicate (length bytes) 0))
      (λ i l. f i l ∙ sym (get_or-replicate (length bytes) i 0 0 l)))

pub proved : Promises
proved =
    record {
      compares = λ a b. (same_equal a b, equal_same a b);
      zeros = λ bytes. (each_zero bytes, zero_each bytes);
      copies = λ dst at src fits. copied_there dst src at fits;
      leaves = λ dst at src past. copied_not dst src at past;
    }
