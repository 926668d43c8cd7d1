-- Two messages with different digests, which no wrong update and no constant digest can tell apart. Assumes nothing.
use Prim.Native.Nat.{ℕ, ◌≤◌}
use mathlib.Core.Path.{◌≡◌, refl, sym, ap, ◌∙◌}
use mathlib.Core.List.{List, [], ◌∷◌}
use native.Mathlib.Omega.{arith}
use borrow.Author.Tests.{eqb-false}
use lib.ListN.{length, get_or, drop}
use Rattle.word.specs.BigEndian.{big_endian}
use Rattle.hash.specs.Sm3.{sm3}
use Rattle.hash.specs.State.{fresh}
use Rattle.hash.specs.Update.{update}
use Rattle.hash.specs.Cutting.{joined, after_all_of}
use Rattle.hash.specs.Promises.{AnyCuttingOf}
use Rattle.hash.specs.declared.Hash.{Hash}
use Rattle.hash.specs.declared.Updated.{Updated}
use Rattle.hash.specs.declared.Digest.{Digest}
use Rattle.hash.proofs.Proved.{proved as hash}
use Rattle.printed.specs.Printed.{bytes_of, abc, sixteen_words, abcd16}
use Rattle.printed.proofs.Proved.{proved as printed}
use Rattle.rejected.specs.Wrong.{constant, does_nothing, first_piece_only}

-- their first bytes differ
differ : sm3 abc ≡ sm3 abcd16 → ⊥
unfolding bytes_of big_endian
differ e =
    let first : (bytes : List ℕ) → ℕ = λ bytes. get_or bytes 0 0 in
    eqb-false 0x66 0xde refl (ap first (sym printed.one_block ∙ e ∙ printed.two_blocks))

-- both messages begin with the same byte
abbrev a : List ℕ
a = 0x61 ∷ []

abbrev bc : List ℕ
bc = 0x62 ∷ 0x63 ∷ []

abbrev others : List ℕ
others = drop 1 abcd16

-- whichever way the two are cut: where the final cannot tell them apart, they have one digest
module _ (updating : Hash → List ℕ → Updated) (finishing : Hash → Digest) (c : AnyCuttingOf updating finishing) (one other : List (List ℕ)) where
  pub told_apart : joined one ≡ abc → joined other ≡ abcd16 → finishing (after_all_of updating fresh one) ≡ finishing (after_all_of updating fresh other) → ⊥
  unfolding abc abcd16 sixteen_words bytes_of big_endian
  told_apart is_abc is_abcd same =
      let digest : (d : Digest) → List ℕ = λ d. d.bytes in
      let short : length (joined one) ≤ 2305843009213693951 = rw is_abc (omega arith) in
      let long : length (joined other) ≤ 2305843009213693951 = rw is_abcd (omega arith) in
      differ
      (ap sm3 (sym is_abc) ∙ sym (ap digest (c one short).1) ∙ ap digest same ∙ ap digest (c other long).1 ∙ ap sm3 is_abcd)

whole_abc : joined (abc ∷ []) ≡ abc
unfolding joined abc
whole_abc = refl

whole_abcd : joined (abcd16 ∷ []) ≡ abcd16
unfolding joined abcd16 sixteen_words bytes_of big_endian
whole_abcd = refl

cut_abc : joined (a ∷ bc ∷ []) ≡ abc
unfolding joined abc
cut_abc = refl

cut_abcd : joined (a ∷ others ∷ []) ≡ abcd16
unfolding joined abcd16 sixteen_words bytes_of big_endian
cut_abcd = refl

pub no_constant : (updating : Hash → List ℕ → Updated) (d : Digest) → AnyCuttingOf updating (constant d) → ⊥
unfolding constant
no_constant updating d c = told_apart updating (constant d) c (abc ∷ []) (abcd16 ∷ []) whole_abc whole_abcd refl

pub no_idle : (finishing : Hash → Digest) → AnyCuttingOf does_nothing finishing → ⊥
unfolding does_nothing after_all_of
no_idle finishing c = told_apart does_nothing finishing c (abc ∷ []) (abcd16 ∷ []) whole_abc whole_abcd refl

-- after the first piece, the state has taken one byte, and no other piece counts
one_taken : (update fresh a).state.total ≡ 1
unfolding fresh
one_taken = ap (λ (u : Updated). u.state.total) (hash.from_any_state fresh a hash.fresh_state.1 (omega arith))

first_kept : first_piece_only fresh a ≡ update fresh a
unfolding first_piece_only fresh
first_kept = refl

ignored : (h : Hash) (piece : List ℕ) → h.total ≡ 1 → (first_piece_only h piece).state ≡ h
unfolding first_piece_only
ignored h piece e = rw e

only_first : (piece : List ℕ) → after_all_of first_piece_only fresh (a ∷ piece ∷ []) ≡ (update fresh a).state
unfolding after_all_of
only_first piece =
    ap (λ (u : Updated). (first_piece_only u.state piece).state) first_kept ∙ ignored (update fresh a).state piece one_taken

pub no_first_only : (finishing : Hash → Digest) → AnyCuttingOf first_piece_only finishing → ⊥
no_first_only finishing c =
    told_apart first_piece_only finishing c (a ∷ bc ∷ []) (a ∷ others ∷ []) cut_abc cut_abcd (ap finishing (only_first bc ∙ sym (only_first others)))
