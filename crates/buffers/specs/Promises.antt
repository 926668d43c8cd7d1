-- What the crate promises of bytes compared, copied and cleared. All of it is proved in proofs/Proved.antt.
use Rattle.std.specs.Prelude.{ℕ, ◌+◌, ◌<◌, ◌≤◌, ◌≡◌, ◌↔◌, List, ◌++◌, true, length, get_or, take, drop}
use Rattle.buffers.specs.Same.{same, all_zero}
use Rattle.buffers.specs.Copy.{copied}

pub record Promises : Type 0 where
  -- the same exactly when they are equal
  pub compares : (a b : List ℕ) → (same a b ≡ true) ↔ (a ≡ b)
  -- all zero exactly when each byte is
  pub zeros : (bytes : List ℕ) → (all_zero bytes ≡ true) ↔ ((i : ℕ) → i < length bytes → get_or bytes i 0 ≡ 0)
  -- where they fit, the bytes stand from the index on, and the others are as they were
  pub copies :
      (dst : List ℕ) (at : ℕ) (src : List ℕ) → at + length src ≤ length dst
      → copied dst at src ≡ take at dst ++ (src ++ drop (at + length src) dst)
  -- where they do not, nothing is copied
  pub leaves : (dst : List ℕ) (at : ℕ) (src : List ℕ) → length dst < at + length src → copied dst at src ≡ dst
