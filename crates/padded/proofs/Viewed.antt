-- The block view: when it answers which number, and where its parts lie. Assumes nothing.
use Prim.Native.Nat.{ℕ, ◌+◌, ◌*◌, ◌-◌, ◌/◌, ◌%◌, ◌<◌, ◌≤◌}
use mathlib.Core.Path.{◌≡◌, refl, sym, ap, ◌∙◌}
use mathlib.Core.Bool.{Bool, true, false, ◌&&◌}
use mathlib.Core.List.{List}
use native.Mathlib.Decide.{dec_lt}
use native.Mathlib.Omega.{arith}
use borrow.Author.Tests.{lt-ltb, le-ltb, eqb-false}
use lib.Dec.{eqb}
use lib.ListN.{length, take}
use lib.Seq.{length-take-le}
use Rattle.refusal.specs.Table.{accepted, too_long, wrong_size, other_tail, no_such_block}
use Rattle.buffers.specs.Same.{same}
use Rattle.word.specs.BigEndian.{AreBytes}
use Rattle.std.specs.Prelude.{Some}
use Rattle.units.specs.declared.Bits.{Bits}
use Rattle.units.specs.Units.{bits_of}
use Rattle.units.proofs.Exact.{bits_are}
use Rattle.std.specs.Option.{option_eq}
use native.Mathlib.Nat.{mul_comm}
use Rattle.standard.specs.Standard.{rest}
use Rattle.standard.proofs.Folding.{length_rest}
use Rattle.refusal.specs.declared.Written.{Written}
use Rattle.units.specs.Units.{longest}
use Rattle.padding.specs.Padding.{zeros, padding, block_count}
use Rattle.padding.specs.Writing.{tail_of, tail_size, tail_answer}
use Rattle.padding.proofs.Tails.{fills, fills_blocks, cases, refused_long, refused_size, accepts, accepted_when}
use Rattle.padding.proofs.Wholes.{last_part, last_part_lem}
use Rattle.padded.specs.Removing.{stated_bits, right_fill}
use Rattle.padded.specs.Viewing.{view_number}
use Rattle.padded.proofs.Parts.{by_parts}

-- a tail against what the writer puts there: the message's last bytes, the fill and the stated length
module _ (s t : List ℕ) (all : AreBytes t) (w : length s ≤ longest) (long : length t ≡ tail_size (length s)) where
  tail_tests : same t (tail_of s) ≡ (same (take (length s % 64) t) (last_part s) && right_fill (length s % 64) t && eqb (stated_bits t) (8 * length s))
  unfolding tail_of padding
  tail_tests =
      let whole = fills (length s) in
      let last = length_rest s in
      rw (last_part_lem s, ← last)
      (by_parts (rest s) t (zeros (length s)) (8 * length s) all (omega arith) (omega arith))

  pub other_front : same (take (length s % 64) t) (last_part s) ≡ false → false ≡ same t (tail_of s)
  other_front h = sym (tail_tests ∙ rw h)

  pub other_fill : same (take (length s % 64) t) (last_part s) ≡ true → right_fill (length s % 64) t ≡ false → false ≡ same t (tail_of s)
  other_fill h f = sym (tail_tests ∙ rw (h, f))

  -- the stated bits against those that the unit's conversion gives
  pub right_tail : same (take (length s % 64) t) (last_part s) ≡ true → right_fill (length s % 64) t ≡ true
      → (x : Bits) → x.0 ≡ stated_bits t → option_eq (λ x y. eqb x.0 y.0) (Some x) (bits_of (record { 0 = length s })) ≡ same t (tail_of s)
  right_tail h f x stated = rw (bits_are (record { 0 = length s }) w, stated, mul_comm (length s) 8) (sym (tail_tests ∙ rw (h, f)))

module _ (s b : List ℕ) (i : ℕ) where
  pub view_long : longest < length s → view_number s b i ≡ too_long
  unfolding view_number
  view_long l = simp (lt-ltb longest (length s) l)

  module _ (w : length s ≤ longest) where
    pub view_short : length b < tail_size (length s) → view_number s b i ≡ wrong_size
    unfolding view_number
    view_short h = simp (le-ltb longest (length s) w, lt-ltb (length b) (tail_size (length s)) h)

    module _ (r : tail_size (length s) ≤ length b) where
      pub view_other : same (take (tail_size (length s)) b) (tail_of s) ≡ false → view_number s b i ≡ other_tail
      unfolding view_number
      view_other h = simp (le-ltb longest (length s) w, le-ltb (length b) (tail_size (length s)) r, h)

      pub view_past : same (take (tail_size (length s)) b) (tail_of s) ≡ true → block_count (length s) ≤ i → view_number s b i ≡ no_such_block
      unfolding view_number
      view_past h p = simp (le-ltb longest (length s) w, le-ltb (length b) (tail_size (length s)) r, h, le-ltb i (block_count (length s)) p)

      pub view_accepts : same (take (tail_size (length s)) b) (tail_of s) ≡ true → i < block_count (length s) → view_number s b i ≡ accepted
      unfolding view_number
      view_accepts h p = simp (le-ltb longest (length s) w, le-ltb (length b) (tail_size (length s)) r, h, lt-ltb i (block_count (length s)) p)

  -- what the writer refuses, the view refuses by the same number
  pub view_refused : (answer : Written) → answer ≡ tail_answer (length s) (length b) → (answer.number ≡ accepted → ⊥) → answer.number ≡ view_number s b i
  view_refused answer is h =
      cases (length s) (length b)
      (λ l. ap (λ r. r.number) (is ∙ refused_long (length s) (length b) l) ∙ sym (view_long l))
      (λ w r. ap (λ r. r.number) (is ∙ refused_size (length s) (length b) w r) ∙ sym (view_short w r))
      (λ w r. absurd (h (ap (λ r. r.number) (is ∙ accepts (length s) (length b) w r))))

  -- the answer accepts: what the comparison of the tail needs, and what follows from it
  module _ (answer : Written) (is : answer ≡ tail_answer (length s) (length b)) (ok : answer.number ≡ accepted) where
    pub tail_there : length (take answer.count b) ≡ answer.count
    tail_there = let known = accepted_when (length s) (length b) answer is ok in length-take-le answer.count b (omega arith)

    pub tail_fits : (length s ≤ longest) × (length (take answer.count b) ≡ tail_size (length s))
    tail_fits = let known = accepted_when (length s) (length b) answer is ok in (known.within, tail_there ∙ known.size)

    pub answers_other : same (take answer.count b) (tail_of s) ≡ false → other_tail ≡ view_number s b i
    answers_other h =
        let known = accepted_when (length s) (length b) answer is ok in
        sym (view_other known.within known.roomy (ap (λ n. same (take n b) (tail_of s)) (sym known.size) ∙ h))

    pub answers_past : same (take answer.count b) (tail_of s) ≡ true → block_count (length s) ≤ i → no_such_block ≡ view_number s b i
    answers_past h p =
        let known = accepted_when (length s) (length b) answer is ok in
        sym (view_past known.within known.roomy (ap (λ n. same (take n b) (tail_of s)) (sym known.size) ∙ h) p)

    pub answers_accepted : same (take answer.count b) (tail_of s) ≡ true → i < block_count (length s) → accepted ≡ view_number s b i
    answers_accepted h p =
        let known = accepted_when (length s) (length b) answer is ok in
        sym (view_accepts known.within known.roomy (ap (λ n. same (take n b) (tail_of s)) (sym known.size) ∙ h) p)

  -- one of the five
  pub view_cases : {P : Type 0}
      → (longest < length s → P)
      → (length s ≤ longest → length b < tail_size (length s) → P)
      → (length s ≤ longest → tail_size (length s) ≤ length b → same (take (tail_size (length s)) b) (tail_of s) ≡ false → P)
      → (length s ≤ longest → tail_size (length s) ≤ length b → same (take (tail_size (length s)) b) (tail_of s) ≡ true → block_count (length s) ≤ i → P)
      → (length s ≤ longest → tail_size (length s) ≤ length b → same (take (tail_size (length s)) b) (tail_of s) ≡ true → i < block_count (length s) → P)
      → P
  view_cases {P} long small other past there = cases (length s) (length b) long small (λ w r. by_tail w r (same (take (tail_size (length s)) b) (tail_of s)) refl)
    where
      by_block : length s ≤ longest → tail_size (length s) ≤ length b → same (take (tail_size (length s)) b) (tail_of s) ≡ true → Dec (i < block_count (length s)) → P
      by_block w r t (yes p) = there w r t p
      by_block w r t (no p) = past w r t (omega arith)

      by_tail : length s ≤ longest → tail_size (length s) ≤ length b → (p : Bool) → same (take (tail_size (length s)) b) (tail_of s) ≡ p → P
      by_tail w r true e = by_block w r e (dec_lt i (block_count (length s)))
      by_tail w r false e = other w r e

  -- a number rules the cases of the others out
  module _ {P : Type 0} {x : ℕ} (e : view_number s b i ≡ x) where
    other_number : {y : ℕ} → eqb x y ≡ false → view_number s b i ≡ y → P
    other_number {y} h f = absurd (eqb-false x y h (sym e ∙ f))

    pub not_long : eqb x too_long ≡ false → longest < length s → P
    not_long h l = other_number h (view_long l)

    pub not_short : eqb x wrong_size ≡ false → length s ≤ longest → length b < tail_size (length s) → P
    not_short h w r = other_number h (view_short w r)

    pub not_other :
        eqb x other_tail ≡ false → length s ≤ longest → tail_size (length s) ≤ length b → same (take (tail_size (length s)) b) (tail_of s) ≡ false → P
    not_other h w r o = other_number h (view_other w r o)

    pub not_past :
        eqb x no_such_block ≡ false →
        length s ≤ longest → tail_size (length s) ≤ length b → same (take (tail_size (length s)) b) (tail_of s) ≡ true → block_count (length s) ≤ i → P
    not_past h w r t p = other_number h (view_past w r t p)

    pub not_there :
        eqb x accepted ≡ false →
        length s ≤ longest → tail_size (length s) ≤ length b → same (take (tail_size (length s)) b) (tail_of s) ≡ true → i < block_count (length s) → P
    not_there h w r t p = other_number h (view_accepts w r t p)

  -- what is known where the number is 0
  pub record Viewed : Type 0 where
    pub within : length s ≤ longest
    pub roomy : tail_size (length s) ≤ length b
    pub tail : same (take (tail_size (length s)) b) (tail_of s) ≡ true
    pub below : i < block_count (length s)

  pub viewed : view_number s b i ≡ accepted → Viewed
  viewed h =
      view_cases (not_long h refl) (not_short h refl) (not_other h refl) (not_past h refl)
      (λ w r t p. record { within = w; roomy = r; tail = t; below = p })

  -- a block that lies in the buffer has room there
  pub tail_room : view_number s b i ≡ accepted → length s / 64 ≤ i → 64 * (i - length s / 64) + 64 ≤ length b
  unfolding block_count
  tail_room ok h = let known = viewed ok in omega (arith, fills_blocks (length s))
