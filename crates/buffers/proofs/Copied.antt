-- Bytes copied over others, and what is there where they fit. Assumes nothing.
use mathlib.Core.Path.{◌≡◌, refl, sym, ◌∙◌}
use Prim.Native.Nat.{ℕ, ◌+◌, ◌≤◌, ◌<◌}
use native.Mathlib.Nat.{zero-add}
use native.Mathlib.Numerals.{add-one}
use native.Mathlib.Omega.{arith}
use mathlib.Core.List.{List, ◌++◌, append_assoc}
use borrow.Author.Tests.{le-leb, lt-leb}
use lib.ListN.{length, get_or, set, take, drop}
use lib.Seq.{paste, paste-suc, take-length}
use borrow.Rule.Slice.PartMut.{put_mid}
use Rattle.std.proofs.lemmas.Slice.{put_mid-paste}
use Rattle.buffers.specs.Copy.{copied}

-- one byte more
pub paste_more : (d s e : List ℕ) (at i : ℕ) → e ≡ paste d at s i → at + length s ≤ length d → i < length s
    → set e (at + i) (get_or s i 0) ≡ paste d at s (i + 1)
paste_more d s e at i so fits more = rw (so, add-one) (paste-suc d at s i 0 (omega arith) more)

module _ (d s : List ℕ) (at : ℕ) where
  pub copied_there : at + length s ≤ length d → copied d at s ≡ take at d ++ (s ++ drop (at + length s) d)
  unfolding copied
  copied_there fits = rw (le-leb (at + length s) (length d) fits) (append_assoc (take at d) s _)

  pub copied_fits : at + length s ≤ length d → copied d at s ≡ paste d at s (length s)
  unfolding copied
  copied_fits fits = rw (le-leb (at + length s) (length d) fits, take-length s)

  pub copied_not : length d < at + length s → copied d at s ≡ d
  unfolding copied
  copied_not past = rw (lt-leb (at + length s) (length d) past)

-- written over a part of the bytes that is as long
pub copied_over : (d s e : List ℕ) (at k : ℕ) → at + length s ≤ length d → k ≡ length s → e ≡ s → put_mid at k d e ≡ copied d at s
copied_over d s e at k fits long same =
    put_mid-paste at k d e s (length s) same (sym long) refl ∙ sym (copied_fits d s at fits)

-- to the front
pub copied_front : (d s : List ℕ) → length s ≤ length d → copied d 0 s ≡ s ++ drop (length s) d
unfolding copied
copied_front d s fits = rw (zero-add (length s), le-leb (length s) (length d) fits)
