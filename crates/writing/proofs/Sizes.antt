-- How long the texts are. Assumes nothing.
use Prim.Native.Nat.{ℕ, zero, suc, ◌+◌, ◌*◌, ◌^◌, ◌≤◌, ◌<◌}
use mathlib.Core.Path.{◌≡◌, refl}
use mathlib.Core.List.{List, [], ◌∷◌, ◌++◌}
use native.Mathlib.Nat.{pow-suc}
use native.Mathlib.Numerals.{add-one}
use native.Mathlib.Omega.{arith}
use Rattle.std.specs.Prelude.{max}
use lib.ListN.{length, length-append}
use Rattle.decimal.specs.Numbers.{Decimal, figure, longer}
use Rattle.decimal.specs.Writing.{decimal}
use Rattle.decimal.proofs.Proved.{proved as numbers}
use Rattle.lines.specs.declared.Entry.{Entry}
use Rattle.writing.specs.Texts.{field_text, digest_text, line_text, header_text}

pub field_size : (value ending : ℕ) → length (field_text value ending) ≡ length (decimal value) + 1
unfolding field_text
field_size value ending = length-append (decimal value) (ending ∷ [])

pub digest_size : (bytes : List ℕ) → length (digest_text bytes) ≡ 2 * length bytes
unfolding digest_text
digest_size [] = refl
digest_size (byte ∷ bytes) = omega (arith, digest_size bytes)

pub header_size : (count : ℕ) → length (header_text count) ≡ 8 + length (decimal count)
unfolding header_text
header_size count = omega (arith, field_size count 10)

-- a number from a power of ten on has more figures than that power
some_power : (k : ℕ) → 1 ≤ 10 ^ k
some_power zero = omega arith
some_power (suc k) = rw pow-suc (omega (arith, some_power k))

past_power : (text : List ℕ) (value k : ℕ) → Decimal text value → 10 ^ k ≤ value → k < length text
past_power text value zero (figure d below) low = omega arith
past_power text value (suc k) (figure d below) low = absurd (omega (arith, some_power k, rw pow-suc at low))
past_power text value zero (longer {text = front} d begun some below) low = omega (arith, length-append front ((0x30 + d) ∷ []))
past_power text value (suc k) (longer {text = front} {value = high} d begun some below) low =
    omega (arith, past_power front high k begun (omega (arith, rw pow-suc at low)), length-append front ((0x30 + d) ∷ []))

-- and the powers of ten on both sides of a number tell how many it has
pub so_many_figures : (n k : ℕ) → 10 ^ k ≤ max n 1 → max n 1 < 10 * 10 ^ k → k + 1 ≡ length (decimal n)
so_many_figures zero zero low high = omega (arith, numbers.at_most 0 1 (omega arith) (omega arith))
so_many_figures zero (suc k) low high = absurd (omega (arith, some_power k, rw pow-suc at low))
so_many_figures (suc n) k low high =
    omega (arith, past_power (decimal (suc n)) (suc n) k (numbers.spells (suc n)) (omega arith), numbers.at_most (suc n) (k + 1) (omega arith) (rw (add-one, pow-suc) (omega arith)))

few : (n : ℕ) → n < 2 ^ 32 → length (decimal n) ≤ 10
few n small = (numbers.at_most n 10 (omega arith) (omega arith)).1

-- the fields of a line, and what stands behind them
module _ (e : Entry) where
  pub line_size : length e.sample.digest ≡ 32
      → length (line_text e)
      ≡ length (decimal e.note) + length (decimal e.sample.length) + length (decimal e.sample.loop_start) + length (decimal e.sample.loop_end) + 69
  unfolding line_text
  line_size long =
      let a = field_text e.note 9 in
      let b = field_text e.sample.length 9 in
      let c = field_text e.sample.loop_start 9 in
      let d = field_text e.sample.loop_end 9 in
      let f = digest_text e.sample.digest in
      omega (
        arith,
        length-append a (b ++ (c ++ (d ++ (f ++ (10 ∷ []))))),
        length-append b (c ++ (d ++ (f ++ (10 ∷ [])))),
        length-append c (d ++ (f ++ (10 ∷ []))),
        length-append d (f ++ (10 ∷ [])),
        length-append f (10 ∷ []),
        field_size e.note 9,
        field_size e.sample.length 9,
        field_size e.sample.loop_start 9,
        field_size e.sample.loop_end 9,
        digest_size e.sample.digest,
        long,
      )

  -- no line is long
  pub line_short : length e.sample.digest ≡ 32 → e.note < 2 ^ 32 → e.sample.length < 2 ^ 32 → e.sample.loop_start < 2 ^ 32 → e.sample.loop_end < 2 ^ 32
      → length (line_text e) ≤ 109
  line_short long a b c d = omega (arith, line_size long, few e.note a, few e.sample.length b, few e.sample.loop_start c, few e.sample.loop_end d)

pub header_short : (count : ℕ) → count < 2 ^ 32 → length (header_text count) ≤ 18
header_short count small = omega (arith, header_size count, few count small)
