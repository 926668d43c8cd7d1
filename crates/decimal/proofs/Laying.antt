-- The figures laid at the end of twenty bytes, the last one first. Assumes nothing.
use Prim.Native.Nat.{ℕ, zero, suc, ◌+◌, ◌-◌, ◌/◌, ◌%◌, ◌^◌, ◌<◌, ◌≤◌}
use mathlib.Core.Path.{◌≡◌, refl, sym, ap, ◌∙◌}
use mathlib.Core.List.{List, [], ◌∷◌, ◌++◌, append_assoc}
use native.Mathlib.Nat.{pow-suc}
use native.Mathlib.Omega.{arith}
use lib.ListN.{length, set, take, drop, replicate, length-set, length-append, length-drop, length-replicate, take-append-drop}
use lib.Seq.{drop-cons, drop-set-lt, take-set-le, get_or-set_same, lt-length-set, take-take, take-length, drop_at}
use Rattle.decimal.specs.Writing.{figures_before, decimal, figures_of}
use Rattle.decimal.specs.declared.Figures.{Figures}
use Rattle.decimal.proofs.Spelling.{before_zero, before_more, enough, few}

-- so much of n is still to be laid, and the rest stands from an index on, with zeros before it
pub record Laid (n : ℕ) (bytes : List ℕ) (from left : ℕ) : Type 0 where
  pub long : length bytes ≡ 20
  pub room : from ≤ 19
  pub small : left < 10 ^ from
  pub zeros : take from bytes ≡ replicate from 0
  pub figures : decimal n ≡ figures_before left left ++ drop from bytes

-- the last figure
pub laid_first : (n : ℕ) → n < 2 ^ 64 → Laid n (set (replicate 20 0) 19 (0x30 + n % 10)) 19 (n / 10)
unfolding decimal
laid_first n fits =
    record {
      long = refl;
      room = omega arith;
      small = omega arith;
      zeros = refl;
      figures = ap (λ (l : List ℕ). l ++ ((0x30 + n % 10) ∷ [])) (enough n (n / 10) (n / 10) (omega arith) (omega arith));
    }

first_zeros : (k : ℕ) → take k (replicate {A = ℕ} (suc k) 0) ≡ replicate k 0
first_zeros zero = refl
first_zeros (suc k) = ap (λ (l : List ℕ). 0 ∷ l) (first_zeros k)

module _ (n from left : ℕ) (bytes : List ℕ) (l : Laid n bytes from left) (more : 0 < left) where
  pub some_room : 1 ≤ from
  some_room = by from l.small
    where
      by : (from : ℕ) → left < 10 ^ from → 1 ≤ from
      by zero small = absurd (omega arith)
      by (suc from) small = omega arith

  -- one figure more
  pub laid_next : Laid n (set bytes (from - 1) (0x30 + left % 10)) (from - 1) (left / 10)
  laid_next =
      let some = some_room in
      let at = from - 1 in
      let c = 0x30 + left % 10 in
      let long = l.long in
      let room = l.room in
      let before : from ≡ suc at = omega arith in
      let within : at < length bytes = omega arith in
      let tenth : figures_before left left ≡ figures_before (left / 10) (left / 10) ++ (c ∷ []) =
      before_more left left (omega arith) (omega arith)
      ∙ ap (λ (f : List ℕ). f ++ (c ∷ [])) (enough (left - 1) (left / 10) (left / 10) (omega arith) (omega arith)) in
      let laid : drop at (set bytes at c) ≡ c ∷ drop from bytes =
      drop-cons (set bytes at c) at 0 (lt-length-set bytes at c within)
      ∙ rw (get_or-set_same bytes at c 0 within, drop-set-lt (suc at) bytes at c (omega arith))
      (ap (λ (k : ℕ). c ∷ drop k bytes) (sym before)) in
      record {
        long = rw (length-set bytes at c) long;
        room = omega arith;
        small = let bound = rw (before, pow-suc 10 at) at l.small in omega arith;
        zeros = rw (take-set-le at bytes at c (omega arith)) (front at (rw before at l.zeros));
        figures = l.figures ∙ rw (tenth, laid) (append_assoc (figures_before (left / 10) (left / 10)) (c ∷ []) (drop from bytes));
      }
    where
      front : (at : ℕ) → take (suc at) bytes ≡ replicate (suc at) 0 → take at bytes ≡ replicate at 0
      front at e = sym (take-take at (suc at) bytes (omega arith)) ∙ ap (take at) e ∙ first_zeros at

-- all of them
pub laid_all : (n from left : ℕ) (bytes : List ℕ) → Laid n bytes from left → left ≤ 0 → record { bytes = bytes; from = from } ≡ figures_of n
unfolding figures_of
laid_all n from left bytes l none =
    let rest : decimal n ≡ drop from bytes = l.figures ∙ rw (before_zero left left (omega arith)) in
    let long = l.long in
    let room = l.room in
    let place : 20 - length (decimal n) ≡ from = omega (arith, ap length rest, length-drop from bytes) in
    let whole : replicate from 0 ++ decimal n ≡ bytes = rw (rest, ← l.zeros) (take-append-drop from bytes) in
    rw (place, whole)

-- the last bytes are the figures
module _ (n : ℕ) (fits : n < 2 ^ 64) (f : Figures) (e : f ≡ figures_of n) where
  at_most_twenty : length (decimal n) ≤ 20
  at_most_twenty = few 20 n (omega arith) (omega arith)

  pub from_within : f.from ≤ 20
  unfolding figures_of
  from_within = rw e (omega arith)

  pub long_twenty : length f.bytes ≡ 20
  unfolding figures_of
  long_twenty =
      let zeros = 20 - length (decimal n) in
      rw (e, length-append (replicate zeros 0) (decimal n), length-replicate {A = ℕ} zeros 0) (omega (arith, at_most_twenty))

  pub so_many : 20 - f.from ≡ length (decimal n)
  unfolding figures_of
  so_many = rw e (omega (arith, at_most_twenty))

  pub last_figures : take (length f.bytes - f.from) (drop f.from f.bytes) ≡ decimal n
  unfolding figures_of
  last_figures =
      let zeros = 20 - length (decimal n) in
      rw (long_twenty, so_many, e, drop_at (replicate zeros 0) (decimal n) zeros (length-replicate {A = ℕ} zeros 0)) (take-length (decimal n))
