-- What follows from a hash state's being in order, and which state is fresh. Assumes nothing.
use mathlib.Core.Path.{◌≡◌, refl, sym, ap, ◌∙◌}
use Prim.Native.Nat.{ℕ, zero, suc, ◌+◌, ◌-◌, ◌%◌, ◌≤◌, ◌<◌}
use native.Mathlib.Nat.{sub-zero, zero-sub, suc-sub-suc}
use native.Mathlib.Omega.{arith}
use mathlib.Core.Bool.{Bool, true, false, ◌&&◌, and-true}
use mathlib.Core.Logic.{inl, inr}
use mathlib.Core.List.{List, [], ◌++◌, append-nil}
use lib.Dec.{leb, eqb}
use lib.ListN.{length, get_or, take, drop, replicate, length-append, length-drop, take-append-drop, length-replicate, get_or-replicate}
use lib.Seq.{take_all, take-length, length-take-le, take_at, drop_at, get_or-drop, drop-drop, ext_get_or}
use borrow.Author.Tests.{leb-true, le-leb, eqb-true}
use Rattle.buffers.specs.Copy.{copied}
use Rattle.buffers.proofs.Copied.{copied_fits, copied_front}
use Rattle.buffers.specs.Same.{same, all_zero}
use Rattle.buffers.proofs.Comparing.{same_equal, same_self, equal_same}
use Rattle.truth.proofs.Tests.{either, first, second, both}
use Rattle.standard.specs.declared.Words.{Words}
use Rattle.standard.specs.Standard.{IV}
use Rattle.units.specs.Units.{longest}
use Rattle.hash.specs.State.{fresh, in_list, is_fresh, kept, in_order, as_tail}
use Rattle.hash.specs.Promises.{InOrder}
use Rattle.hash.specs.declared.Hash.{Hash}

-- states are equal part by part
pub parts : {v w : Words} {m n : ℕ} {s t : List ℕ} → v ≡ w → m ≡ n → s ≡ t
    → ◌≡◌ {A = Hash} (record { words = v; total = m; tail = s }) (record { words = w; total = n; tail = t })
parts e f g = λ i. record { words = e i; total = f i; tail = g i }

-- zeros, and bytes before them
drop_replicate : (n r : ℕ) → drop r (replicate n 0) ≡ replicate {A = ℕ} (n - r) 0
drop_replicate n zero = rw (sub-zero n)
drop_replicate zero (suc r) = rw (zero-sub (suc r))
drop_replicate (suc n) (suc r) = drop_replicate n r ∙ rw (suc-sub-suc n r)

-- a part that goes to the end
pub to_end : (n : ℕ) (s : List ℕ) → take (length s - n) (drop n s) ≡ drop n s
to_end n s = take_all (length s - n) (drop n s) (omega (arith, length-drop n s))

-- bytes copied to the front of zeros are a tail
pub tail_copied : (s : List ℕ) → length s ≤ 64 → copied (replicate 64 0) 0 s ≡ as_tail s
unfolding as_tail
tail_copied s fits = copied_front (replicate 64 0) s fits ∙ rw (drop_replicate 64 (length s))

pub asTail_full : (s : List ℕ) → length s ≡ 64 → as_tail s ≡ s
unfolding as_tail
asTail_full s e = rw e (append-nil s)

-- as the code decides it: the total, and the trailing bytes against zeros
pub trailing_zeros : (h : Hash) → length h.tail ≡ 64
    → in_order h ≡ (leb h.total longest && all_zero (take (64 - h.total % 64) (drop (h.total % 64) h.tail)))
unfolding in_order
trailing_zeros h l =
    let r = h.total % 64 in
    let n : length (drop r h.tail) ≡ 64 - r = omega (arith, length-drop r h.tail) in
    rw (take_all (64 - r) (drop r h.tail) (omega arith), n)

-- a state whose tail is made of as many bytes as its total says keeps those, and is in order
module _ (w : Words) (n : ℕ) (s : List ℕ) (e : length s ≡ n % 64) where
  pub kept_asTail : kept (record { words = w; total = n; tail = as_tail s }) ≡ s
  unfolding kept as_tail
  kept_asTail = take_at s _ (n % 64) e

  pub inOrder_asTail : n ≤ longest → in_order (record { words = w; total = n; tail = as_tail s }) ≡ true
  unfolding in_order as_tail
  inOrder_asTail h =
      rw (le-leb n longest h, drop_at s (replicate (64 - length s) 0) (n % 64) e, e) (same_self (replicate (64 - n % 64) 0))

module _ (h : Hash) (o : in_order h ≡ true) where
  pub total_le : h.total ≤ longest
  unfolding in_order
  total_le = leb-true _ _ (first _ _ o)

  zeros_after : drop (h.total % 64) h.tail ≡ replicate (64 - h.total % 64) 0
  unfolding in_order
  zeros_after = same_equal _ _ (second (leb h.total longest) _ o)

  pub length_tail : length h.tail ≡ 64
  length_tail =
      omega (arith, length-drop (h.total % 64) h.tail, ap length zeros_after, length-replicate {A = ℕ} (64 - h.total % 64) 0)

  pub length_kept : length (kept h) ≡ h.total % 64
  unfolding kept
  length_kept = length-take-le _ _ (omega (arith, length_tail))

  -- its tail is its kept bytes and zeros after them
  pub tail_kept : h.tail ≡ as_tail (kept h)
  unfolding kept as_tail
  tail_kept =
      sym (take-append-drop (h.total % 64) h.tail)
      ∙ rw (zeros_after, length-take-le (h.total % 64) h.tail (omega (arith, length_tail)))

  -- what is copied behind the kept bytes goes over zeros
  pub copied_behind : (x : List ℕ) → h.total % 64 + length x ≤ 64 → copied h.tail (h.total % 64) x ≡ as_tail (kept h ++ x)
  unfolding kept as_tail
  copied_behind x fits =
      let r = h.total % 64 in
      let n : 64 - r - length x ≡ 64 - length (kept h ++ x) = omega (arith, length-append (kept h) x, length_kept) in
      let z : drop (r + length x) h.tail ≡ replicate (64 - length (kept h ++ x)) 0 =
      sym (drop-drop (length x) r h.tail)
      ∙ ap (drop (length x)) zeros_after
      ∙ drop_replicate (64 - r) (length x)
      ∙ ap (λ (k : ℕ). replicate k 0) n in
      rw (copied_fits h.tail x r (omega (arith, length_tail)), take-length x, z)

-- in order, byte by byte
zero_after : (h : Hash) → in_order h ≡ true → (i : ℕ) → h.total % 64 ≤ i → i < 64 → get_or h.tail i 0 ≡ 0
zero_after h o i from to =
    let r = h.total % 64 in
    let e : r + (i - r) ≡ i = omega arith in
    ap (λ (k : ℕ). get_or h.tail k 0) (sym e)
    ∙ sym (get_or-drop r h.tail (i - r) 0)
    ∙ ap (λ (s : List ℕ). get_or s (i - r) 0) (zeros_after h o)
    ∙ get_or-replicate (64 - r) (i - r) 0 0 (omega arith)

zeros_in_order : (h : Hash) → length h.tail ≡ 64 → h.total ≤ longest → ((i : ℕ) → h.total % 64 ≤ i → i < 64 → get_or h.tail i 0 ≡ 0)
    → in_order h ≡ true
unfolding in_order
zeros_in_order h l t z =
    let r = h.total % 64 in
    let n : length (drop r h.tail) ≡ 64 - r = length-drop r h.tail ∙ ap (λ (k : ℕ). k - r) l in
    both _ _ (le-leb _ _ t)
    (equal_same _ _
    (ext_get_or 0 (drop r h.tail) (replicate (64 - r) 0) (n ∙ sym (length-replicate (64 - r) 0))
    (λ i b. get_or-drop r h.tail i 0 ∙ z (r + i) (omega arith) (omega arith) ∙ sym (get_or-replicate (64 - r) i 0 0 (omega arith)))))

pub in_order_lem : InOrder
in_order_lem h l =
    (λ o. (total_le h o, zero_after h o), λ q. zeros_in_order h l q.0 q.1)

pub inOrder_fresh : in_order fresh ≡ true
unfolding fresh as_tail
inOrder_fresh = inOrder_asTail IV 0 [] refl (omega arith)

-- words compared one by one
abbrev pub words_equal_each : (v w : Words) → Bool
words_equal_each v w =
    eqb v.a w.a && (eqb v.b w.b && (eqb v.c w.c && (eqb v.d w.d && (eqb v.e w.e && (eqb v.f w.f && (eqb v.g w.g && eqb v.h w.h))))))

pub words_same : (v w : Words) → words_equal_each v w ≡ same (in_list v) (in_list w)
unfolding same in_list
words_same v w = simp and-true

-- a state that has taken nothing is in order when its tail is zeros: with the start words it is the fresh one
none_taken : (h : Hash) → h.total ≡ 0 → in_order h ≡ same h.tail (replicate 64 0)
unfolding in_order
none_taken h e = rw e

pub ordered_fresh : (h : Hash) (o w : Bool) → o ≡ in_order h → w ≡ words_equal_each h.words IV → (o && eqb h.total 0 && w) ≡ is_fresh h
unfolding is_fresh
ordered_fresh h o w e f =
    elim (either (eqb h.total 0)) [
      | inl t ↦ rw (e, f, none_taken h (eqb-true _ _ t), t, words_same h.words IV) (swapped (same h.tail (replicate 64 0)) (same (in_list h.words) (in_list IV)))
      | inr t ↦ rw t (both_no o w (same (in_list h.words) (in_list IV)) (same h.tail (replicate 64 0)))
    ]
  where
    swapped : (s c : Bool) → (s && true && c) ≡ (c && true && s)
    swapped true true = refl
    swapped true false = refl
    swapped false true = refl
    swapped false false = refl

    both_no : (o w c s : Bool) → (o && false && w) ≡ (c && false && s)
    both_no true w true s = refl
    both_no true w false s = refl
    both_no false w true s = refl
    both_no false w false s = refl

-- the fresh state is the only one that counts as fresh
words_equal : (v w : Words) → in_list v ≡ in_list w → v ≡ w
unfolding in_list
words_equal v w e =
    λ i.
    record {
      a = get_or (e i) 0 0;
      b = get_or (e i) 1 0;
      c = get_or (e i) 2 0;
      d = get_or (e i) 3 0;
      e = get_or (e i) 4 0;
      f = get_or (e i) 5 0;
      g = get_or (e i) 6 0;
      h = get_or (e i) 7 0;
    }

pub isFresh_fresh : is_fresh fresh ≡ true
unfolding is_fresh fresh
isFresh_fresh =
    both _ _ (both _ _ (same_self (in_list IV)) refl) (same_self (replicate 64 0))

pub fresh_only : (h : Hash) → is_fresh h ≡ true → h ≡ fresh
unfolding is_fresh fresh
fresh_only h e =
    let w = same (in_list h.words) (in_list IV) in
    let n = eqb h.total 0 in
    let t = same h.tail (replicate 64 0) in
    parts
    (words_equal _ _ (same_equal _ _ (first w n (first (w && n) t e))))
    (eqb-true _ _ (second w n (first (w && n) t e)))
    (same_equal _ _ (second (w && n) t e))
