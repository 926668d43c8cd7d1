-- Taking pieces, one after the other. Assumes nothing.
use mathlib.Core.Path.{◌≡◌, refl, sym, ap, ◌∙◌}
use Prim.Native.Nat.{ℕ, ◌+◌, ◌-◌, ◌%◌, ◌≤◌, ◌<◌}
use native.Mathlib.Omega.{arith}
use native.Mathlib.Nat.{add-zero}
use mathlib.Core.Bool.{true}
use mathlib.Core.List.{List, [], ◌++◌, append_assoc, append-nil}
use lib.ListN.{length, take, drop, length-append, take-append-drop}
use lib.Seq.{length-take-le}
use Rattle.buffers.specs.Copy.{copied}
use Rattle.standard.specs.Standard.{folded, rest}
use Rattle.units.specs.Units.{longest}
use Rattle.hash.specs.State.{kept, in_order, as_tail}
use Rattle.hash.specs.Update.{after_piece}
use Rattle.hash.specs.declared.Hash.{Hash}
use Rattle.standard.proofs.Folding.{length_rest, rest_short, folded_short, folded_join, rest_join, folded_whole, rest_whole}
use Rattle.hash.proofs.State.{parts, copied_behind, asTail_full, kept_asTail, inOrder_asTail, length_kept, tail_kept}

pub total_afterPiece : (h : Hash) (x : List ℕ) → (after_piece h x).total ≡ h.total + length x
unfolding after_piece
total_afterPiece h x = refl

module _ (h : Hash) (o : in_order h ≡ true) where
  left_over : (x : List ℕ) → length (rest (kept h ++ x)) ≡ (h.total + length x) % 64
  left_over x =
      simp (length_rest, length-append, length_kept h o) (omega arith)

  -- what is kept is what the whole blocks leave over
  pub kept_afterPiece : (x : List ℕ) → kept (after_piece h x) ≡ rest (kept h ++ x)
  unfolding after_piece
  kept_afterPiece x = kept_asTail _ _ _ (left_over x)

  -- taking keeps a state in order
  pub inOrder_afterPiece : (x : List ℕ) → h.total + length x ≤ longest → in_order (after_piece h x) ≡ true
  unfolding after_piece
  inOrder_afterPiece x fits = inOrder_asTail _ _ _ (left_over x) fits

  -- "An empty piece changes nothing"
  pub afterPiece_nil : after_piece h [] ≡ h
  unfolding after_piece
  afterPiece_nil =
      let short : length (kept h) < 64 = omega (arith, length_kept h o) in
      rw (append-nil (kept h), folded_short h.words (kept h) short, rest_short (kept h) short, ← tail_kept h o, add-zero h.total)

  -- two pieces, one after the other, are taken as the two joined
  pub afterPiece_join : (x y : List ℕ) → after_piece (after_piece h x) y ≡ after_piece h (x ++ y)
  unfolding after_piece
  afterPiece_join x y =
      let k = kept h ++ x in
      let e : k ++ y ≡ kept h ++ (x ++ y) = append_assoc (kept h) x y in
      parts
      (rw (kept_afterPiece x, ← folded_join h.words k y, e))
      (simp length-append (omega arith))
      (rw (kept_afterPiece x, ← rest_join k y, e))

  -- The three ways that a piece is taken. Where nothing is kept, its blocks are folded where they lie
  pub afterPiece_whole : (x : List ℕ) → h.total % 64 ≡ 0
      → after_piece h x ≡ record { words = folded h.words x; total = h.total + length x; tail = as_tail (rest x) }
  unfolding after_piece kept
  afterPiece_whole x none = rw none

  -- where no block is filled, it is copied behind the kept bytes
  pub afterPiece_short : (x : List ℕ) → length x < 64 - h.total % 64
      → after_piece h x ≡ record { words = h.words; total = h.total + length x; tail = copied h.tail (h.total % 64) x }
  unfolding after_piece
  afterPiece_short x few =
      let short : length (kept h ++ x) < 64 = omega (arith, length-append (kept h) x, length_kept h o) in
      parts (folded_short h.words (kept h ++ x) short) refl (ap as_tail (rest_short (kept h ++ x) short) ∙ sym (copied_behind h o x (omega arith)))

  -- and else its front fills a block, and the blocks after that are folded where they lie
  pub afterPiece_long : (x : List ℕ) → 64 - h.total % 64 ≤ length x
      → (let r = h.total % 64 in
      let full = copied h.tail r (take (64 - r) x) in
      after_piece h x ≡ record { words = folded (folded h.words full) (drop (64 - r) x); total = h.total + length x; tail = as_tail (rest (drop (64 - r) x)) })
  unfolding after_piece
  afterPiece_long x many =
      let r = h.total % 64 in
      let front = take (64 - r) x in
      let s = kept h ++ front in
      let l : length s ≡ 64 = omega (arith, length-append (kept h) front, length_kept h o, length-take-le (64 - r) x many) in
      let whole : length s % 64 ≡ 0 = omega arith in
      let cut : kept h ++ x ≡ s ++ drop (64 - r) x =
      ap (λ (y : List ℕ). kept h ++ y) (sym (take-append-drop (64 - r) x)) ∙ sym (append_assoc (kept h) front (drop (64 - r) x)) in
      rw (copied_behind h o front (omega (arith, length-take-le (64 - r) x many)), asTail_full s l, cut, folded_whole h.words s (drop (64 - r) x) whole, rest_join s (drop (64 - r) x), rest_whole s whole)
