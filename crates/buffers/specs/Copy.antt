-- Bytes copied into others.
use Rattle.std.specs.Prelude.{ℕ, ◌+◌, List, ◌++◌, cond, leb, length, take, drop}

-- the bytes dst with src from index at on; as they were where it does not fit
unfoldable pub copied : List ℕ → ℕ → List ℕ → List ℕ
copied dst at src = cond (leb (at + length src) (length dst)) (take at dst ++ src ++ drop (at + length src) dst) dst
