-- The remover: its tests one by one, and what is known where all hold. Assumes nothing.
use Prim.Native.Nat.{ℕ, ◌+◌, ◌*◌, ◌/◌, ◌%◌, ◌^◌, ◌<◌, ◌≤◌}
use mathlib.Core.Path.{◌≡◌, refl, sym, ap, ◌∙◌}
use mathlib.Core.Bool.{Bool, true, false, ◌&&◌}
use mathlib.Core.List.{List, []}
use native.Mathlib.Omega.{arith}
use borrow.Author.Tests.{lt-ltb, le-ltb, eq-eqb, ne_eqb, eqb-true, ltb-true}
use lib.Dec.{ltb, eqb}
use lib.ListN.{length, take}
use Rattle.std.specs.Prelude.{Option, Some, None, cond, is_some}
use Rattle.std.specs.Option.{unwrap_or}
use Rattle.std.specs.Bool.{then_some}
use Rattle.refusal.specs.Table.{accepted, not_padded}
use Rattle.truth.proofs.Tests.{first, second}
use Rattle.units.specs.declared.Bits.{Bits}
use Rattle.units.specs.declared.Bytes.{Bytes}
use Rattle.units.specs.Units.{bytes_of_bits}
use Rattle.units.proofs.Exact.{either, whole, bytes_are}
use Rattle.padding.specs.Padding.{block_count}
use Rattle.padded.specs.Removing.{stated_bits, right_count, right_fill, is_padded, remove_number, remove_length, remove_part}

-- how many of the bytes are the message, where they are a padded message
abbrev pub found : List ℕ → Option ℕ
found b = cond (is_padded b) (Some (stated_bits b / 8)) None

some_found : (t : Bool) (m : ℕ) → then_some t m ≡ cond t (Some m) None
some_found true m = refl
some_found false m = refl

module _ (b : List ℕ) where
  pub no_bytes : length b ≡ 0 → is_padded b ≡ false
  unfolding is_padded
  no_bytes h = simp (le-ltb 0 (length b) (omega arith))

  pub broken_block : (length b % 64 ≡ 0 → ⊥) → is_padded b ≡ false
  unfolding is_padded
  broken_block h =
      let some : 0 < length b = omega arith in
      simp (lt-ltb 0 (length b) some, ne_eqb (length b % 64) 0 h)

-- whole blocks, and the bits that they state
module _ (b : List ℕ) (some : 0 < length b) (blocks : length b % 64 ≡ 0) (bits : Bits) (stated : bits.0 ≡ stated_bits b) where
  pub broken_byte : bytes_of_bits bits ≡ None → is_padded b ≡ false
  unfolding is_padded right_count
  broken_byte h =
      let none : stated_bits b % 8 ≡ 0 → ⊥ = λ z. either (bytes_are bits (ap (λ n. n % 8) stated ∙ z)) h in
      simp (lt-ltb 0 (length b) some, eq-eqb (length b % 64) 0 blocks, ne_eqb (stated_bits b % 8) 0 none)

  -- whole bytes
  module _ (m : Bytes) (is : bytes_of_bits bits ≡ Some m) where
    even : stated_bits b % 8 ≡ 0
    even = ap (λ n. n % 8) (sym stated) ∙ whole bits m is

    pub value : m.0 ≡ stated_bits b / 8
    value =
        let there = sym is ∙ bytes_are bits (whole bits m is) in
        let same : m ≡ record { 0 = bits.0 / 8 } = cc in
        ap (λ n. n.0) same ∙ ap (λ n. n / 8) stated

    module _ (n : ℕ) (count : n ≡ block_count m.0) where
      pub count_fits : bits.0 < 2 ^ 64 → 64 * n < 2 ^ 64
      unfolding block_count
      count_fits h = let known = value in let same = stated in omega arith

      pub wrong_count : (64 * n ≡ length b → ⊥) → is_padded b ≡ false
      unfolding is_padded right_count
      wrong_count h =
          simp (
            lt-ltb 0 (length b) some,
            eq-eqb (length b % 64) 0 blocks,
            eq-eqb (stated_bits b % 8) 0 even,
            ne_eqb (64 * block_count (stated_bits b / 8)) (length b) (λ z. h (ap (λ n. 64 * n) (count ∙ ap block_count value) ∙ z)),
          )

      module _ (right : 64 * n ≡ length b) where
        pub byte_there : m.0 + 9 ≤ length b
        unfolding block_count
        byte_there = omega arith

        pub then_fill : is_padded b ≡ right_fill m.0 b
        unfolding is_padded right_count
        then_fill =
            rw (
              value,
              lt-ltb 0 (length b) some,
              eq-eqb (length b % 64) 0 blocks,
              eq-eqb (stated_bits b % 8) 0 even,
              eq-eqb (64 * block_count (stated_bits b / 8)) (length b) (ap (λ n. 64 * n) (sym (count ∙ ap block_count value)) ∙ right),
            )

        -- so the fill decides
        pub then_found : then_some (right_fill m.0 b) m.0 ≡ found b
        then_found = ap (λ t. then_some t m.0) (sym then_fill) ∙ ap (then_some (is_padded b)) value ∙ some_found (is_padded b) (stated_bits b / 8)

module _ (b : List ℕ) where
  -- what is known where all the tests hold
  pub record Padded : Type 0 where
    pub some : 0 < length b
    pub bytes : stated_bits b % 8 ≡ 0
    pub count : 64 * block_count (stated_bits b / 8) ≡ length b
    pub fill : right_fill (stated_bits b / 8) b ≡ true

  pub known : is_padded b ≡ true → Padded
  unfolding is_padded right_count
  known h =
      let some = ltb 0 (length b) in
      let blocks = eqb (length b % 64) 0 in
      let whole = eqb (stated_bits b % 8) 0 in
      let count = eqb (64 * block_count (stated_bits b / 8)) (length b) in
      let fill = right_fill (stated_bits b / 8) b in
      let three = first (some && blocks && (whole && count)) fill h in
      let two = first (some && blocks) (whole && count) three in
      let right = second (some && blocks) (whole && count) three in
      record {
        some = ltb-true 0 (length b) (first some blocks two);
        bytes = eqb-true (stated_bits b % 8) 0 (first whole count right);
        count = eqb-true (64 * block_count (stated_bits b / 8)) (length b) (second whole count right);
        fill = second (some && blocks && (whole && count)) fill h;
      }

  pub is_padded_lem : 0 < length b → stated_bits b % 8 ≡ 0 → 64 * block_count (stated_bits b / 8) ≡ length b → right_fill (stated_bits b / 8) b ≡ true → is_padded b ≡ true
  unfolding is_padded right_count
  is_padded_lem s e c f =
      rw (lt-ltb 0 (length b) s, eq-eqb (length b % 64) 0 (omega arith), eq-eqb (stated_bits b % 8) 0 e, eq-eqb (64 * block_count (stated_bits b / 8)) (length b) c, f)

  -- number and part
  pub accepts : is_padded b ≡ true → accepted ≡ remove_number b
  unfolding remove_number
  accepts h = rw h

  pub refuses : is_padded b ≡ false → not_padded ≡ remove_number b
  unfolding remove_number
  refuses h = rw h

  pub length_of : is_padded b ≡ true → stated_bits b / 8 ≡ remove_length b
  unfolding remove_length
  length_of h = rw h

  pub no_length : is_padded b ≡ false → 0 ≡ remove_length b
  unfolding remove_length
  no_length h = rw h

  pub part_of : is_padded b ≡ true → take (stated_bits b / 8) b ≡ remove_part b
  unfolding remove_part
  part_of h = rw (← length_of h)

  pub no_part : is_padded b ≡ false → [] ≡ remove_part b
  unfolding remove_part
  no_part h = rw (← no_length h)

  -- a padded message has room for its length and for itself
  pub room : is_padded b ≡ true → (8 ≤ length b) × (stated_bits b / 8 ≤ length b)
  unfolding block_count
  room h = let is = known h in (omega arith, omega arith)

  -- by the two answers
  pub answered : {P : Type 0} → (is_padded b ≡ true → P) → (is_padded b ≡ false → P) → P
  answered {P} f g = by (is_padded b) refl
    where
      by : (p : Bool) → is_padded b ≡ p → P
      by true e = f e
      by false e = g e

  -- so many bytes are there
  pub length_within : remove_length b ≤ length b
  length_within = answered (λ h. omega (arith, (room h).1, length_of h)) (λ h. omega (arith, no_length h))

  -- what is asked of it
  pub some_of_found : (o : Option ℕ) → o ≡ found b → is_some o ≡ is_padded b
  some_of_found o e = answered (λ h. rw (e, h)) (λ h. rw (e, h))

  pub length_of_found : (o : Option ℕ) → o ≡ found b → unwrap_or o 0 ≡ remove_length b
  unfolding remove_length
  length_of_found o e = answered (λ h. rw (e, h)) (λ h. rw (e, h))
