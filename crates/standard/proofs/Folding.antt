-- Folding bytes block by block: one block, too few bytes for one, and two lots of bytes joined. Assumes nothing.
use mathlib.Core.Path.{◌≡◌, refl, sym, ap, ap₂, ◌∙◌}
use mathlib.Core.List.{List, [], ◌++◌}
use Prim.Native.Nat.{ℕ, zero, suc, ◌+◌, ◌*◌, ◌/◌, ◌%◌, ◌<◌, ◌≤◌}
use native.Mathlib.Omega.{arith}
use native.Mathlib.Numerals.{add-one}
use lib.ListN.{length, take, drop, length-drop, length-append, drop_of_length-le}
use lib.Seq.{take-append-le, drop-append-le, drop-drop}
use Rattle.word.proofs.BigEndian.{length_bigEndian}
use Rattle.standard.specs.declared.Words.{Words}
use Rattle.standard.specs.Standard.{IV, CF, iterated, folded, rest, hash_value}

-- the first block, and then the others
pub folded_block : (v : Words) (m : List ℕ) → 64 ≤ length m → folded v m ≡ folded (CF v (take 64 m)) (drop 64 m)
unfolding iterated folded
folded_block v m h =
    let count : length m / 64 ≡ suc (length (drop 64 m) / 64) = omega (arith, length-drop 64 m) in
    ap (λ (n : ℕ). iterated n v m) count

-- fewer bytes than a block change nothing
pub folded_short : (v : Words) (m : List ℕ) → length m < 64 → folded v m ≡ v
unfolding iterated folded
folded_short v m h =
    let count : length m / 64 ≡ 0 = omega arith in
    ap (λ (n : ℕ). iterated n v m) count

pub rest_short : (m : List ℕ) → length m < 64 → rest m ≡ m
unfolding rest
rest_short m h =
    let none : length m / 64 * 64 ≡ 0 = omega arith in
    ap (λ (n : ℕ). drop n m) none

pub rest_block : (m : List ℕ) → 64 ≤ length m → rest m ≡ rest (drop 64 m)
unfolding rest
rest_block m h =
    let further : length m / 64 * 64 ≡ 64 + length (drop 64 m) / 64 * 64 = omega (arith, length-drop 64 m) in
    ap (λ (n : ℕ). drop n m) further ∙ sym (drop-drop (length (drop 64 m) / 64 * 64) 64 m)

pub length_rest : (m : List ℕ) → length (rest m) ≡ length m % 64
unfolding rest
length_rest m = omega (arith, length-drop (length m / 64 * 64) m)

pub rest_whole : (m : List ℕ) → length m % 64 ≡ 0 → rest m ≡ []
unfolding rest
rest_whole m h =
    let all : length m ≤ length m / 64 * 64 = omega arith in
    drop_of_length-le m all

-- an induction on the number of whole blocks of s
joins : (n : ℕ) (v : Words) (s t : List ℕ) → length s / 64 ≡ n
    → (folded v (s ++ t) ≡ folded (folded v s) (rest s ++ t)) × (rest (s ++ t) ≡ rest (rest s ++ t))
joins zero v s t e =
    let short : length s < 64 = omega arith in (
      sym (ap₂ (λ (w : Words) (r : List ℕ). folded w (r ++ t)) (folded_short v s short) (rest_short s short)),
      sym (ap (λ (r : List ℕ). rest (r ++ t)) (rest_short s short)),
    )
joins (suc n) v s t e =
    let long : 64 ≤ length s = omega arith in
    let fewer : length (drop 64 s) / 64 ≡ n = omega (arith, length-drop 64 s) in
    let both : 64 ≤ length (s ++ t) = omega (arith, length-append s t) in
    let off : drop 64 (s ++ t) ≡ drop 64 s ++ t = drop-append-le 64 s t long in
    let next : Words = CF v (take 64 s) in (
      folded_block v (s ++ t) both ∙ ap₂ (λ (b l : List ℕ). folded (CF v b) l) (take-append-le 64 s t long) off
          ∙ (joins n next (drop 64 s) t fewer).0
          ∙ ap₂ (λ (w : Words) (r : List ℕ). folded w (r ++ t)) (sym (folded_block v s long)) (sym (rest_block s long)),
      rest_block (s ++ t) both ∙ ap rest off ∙ (joins n next (drop 64 s) t fewer).1 ∙ ap (λ (r : List ℕ). rest (r ++ t)) (sym (rest_block s long)),
    )

-- bytes joined: what is left of the first goes before the second
pub folded_join : (v : Words) (s t : List ℕ) → folded v (s ++ t) ≡ folded (folded v s) (rest s ++ t)
folded_join v s t = (joins (length s / 64) v s t refl).0

pub rest_join : (s t : List ℕ) → rest (s ++ t) ≡ rest (rest s ++ t)
rest_join s t = (joins (length s / 64) IV s t refl).1

-- whole blocks before others
pub folded_whole : (v : Words) (s t : List ℕ) → length s % 64 ≡ 0 → folded v (s ++ t) ≡ folded (folded v s) t
folded_whole v s t h = folded_join v s t ∙ ap (λ (r : List ℕ). folded (folded v s) (r ++ t)) (rest_whole s h)

-- V(i+1) = CF(V(i), B(i))
pub iterated_next : (n : ℕ) (v : Words) (m : List ℕ) → iterated (n + 1) v m ≡ CF (iterated n v m) (take 64 (drop (64 * n) m))
unfolding iterated
iterated_next zero v m = refl
iterated_next (suc n) v m =
    let further : 64 + 64 * n ≡ 64 * suc n = omega arith in
    ap (λ (k : ℕ). iterated k v m) (add-one (suc n)) ∙ ap (λ (k : ℕ). iterated k (CF v (take 64 m)) (drop 64 m)) (sym (add-one n))
    ∙ iterated_next n (CF v (take 64 m)) (drop 64 m)
    ∙ ap (λ (l : List ℕ). CF (iterated n (CF v (take 64 m)) (drop 64 m)) (take 64 l)) (drop-drop (64 * n) 64 m ∙ ap (λ (k : ℕ). drop k m) further)

pub length_hashValue : (v : Words) → length (hash_value v) ≡ 32
unfolding hash_value
length_hashValue v = simp (length-append, length_bigEndian)
