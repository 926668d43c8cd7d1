-- A number read figure by figure, as the code decides it. Assumes nothing.
use Prim.Native.Nat.{ℕ, ◌+◌, ◌*◌, ◌-◌, ◌<◌, ◌≤◌}
use mathlib.Core.Path.{◌≡◌}
use mathlib.Core.List.{List}
use mathlib.Core.Bool.{true, false, ◌&&◌}
use native.Mathlib.Numerals.{add-one}
use native.Mathlib.Omega.{arith}
use borrow.Author.Tests.{leb-true, le-leb, lt-leb}
use lib.Dec.{leb}
use lib.ListN.{length, get_or, take, drop, length-drop, drop_of_length-le}
use lib.Seq.{drop-cons}
use Rattle.std.specs.Prelude.{Some, None}
use Rattle.std.proofs.lemmas.List.{take_all}
use Rattle.truth.proofs.Tests.{first, second}
use Rattle.decimal.specs.Reading.{good_numeral, is_figure, with_figure, goes_on, going_on, first_numeral, numeral_at}

-- a figure's code
pub figure_from : (byte : ℕ) → is_figure byte ≡ true → 0x30 ≤ byte
unfolding is_figure
figure_from byte h = leb-true _ _ (first (leb 0x30 byte) (leb byte 0x39) h)

pub figure_to : (byte : ℕ) → is_figure byte ≡ true → byte ≤ 0x39
unfolding is_figure
figure_to byte h = leb-true _ _ (second (leb 0x30 byte) (leb byte 0x39) h)

pub is_figure_lem : (byte : ℕ) → 0x30 ≤ byte → byte ≤ 0x39 → is_figure byte ≡ true
unfolding is_figure
is_figure_lem byte low high = simp (le-leb _ _ low, le-leb _ _ high)

-- when a number goes on
pub goes_figure : (value byte : ℕ) → goes_on value byte ≡ true → is_figure byte ≡ true
unfolding goes_on
goes_figure value byte h = first (is_figure byte) (leb 1 value) (first (is_figure byte && leb 1 value) (leb (with_figure value byte) 4294967295) h)

pub goes_positive : (value byte : ℕ) → goes_on value byte ≡ true → 1 ≤ value
unfolding goes_on
goes_positive value byte h =
    leb-true _ _ (second (is_figure byte) (leb 1 value) (first (is_figure byte && leb 1 value) (leb (with_figure value byte) 4294967295) h))

pub goes_fits : (value byte : ℕ) → goes_on value byte ≡ true → value * 10 + (byte - 0x30) ≤ 4294967295
unfolding goes_on with_figure
goes_fits value byte h = leb-true _ _ (second (is_figure byte && leb 1 value) (leb (with_figure value byte) 4294967295) h)

pub goes_not : (value byte : ℕ) → is_figure byte ≡ false → goes_on value byte ≡ false
unfolding goes_on
goes_not value byte h = simp h

pub goes_zero : (value byte : ℕ) → is_figure byte ≡ true → value < 1 → goes_on value byte ≡ false
unfolding goes_on
goes_zero value byte h low = simp (h, lt-leb 1 value low)

pub goes_by : (value byte : ℕ) → is_figure byte ≡ true → 1 ≤ value → goes_on value byte ≡ leb (value * 10 + (byte - 0x30)) 4294967295
unfolding goes_on with_figure
goes_by value byte h low = simp (h, le-leb 1 value low)

-- where a number begins, and where none does
pub number_past : (text : List ℕ) (at : ℕ) → length text ≤ at → numeral_at text at ≡ None
unfolding numeral_at first_numeral
number_past text at h = rw (drop_of_length-le text h)

pub number_not : (text : List ℕ) (at : ℕ) → at < length text → is_figure (get_or text at 0) ≡ false → numeral_at text at ≡ None
unfolding numeral_at first_numeral
number_not text at h not = rw (drop-cons text at 0 h) (simp not)

pub number_begins : (text : List ℕ) (at : ℕ) → at < length text → is_figure (get_or text at 0) ≡ true
    → numeral_at text at ≡ Some (going_on (get_or text at 0 - 0x30) (at + 1) (take (length text - (at + 1)) (drop (at + 1) text)))
unfolding numeral_at first_numeral
number_begins text at h figure =
    rw (drop-cons text at 0 h, take_all (length text - (at + 1)) (drop (at + 1) text) (omega (arith, length-drop (at + 1) text)))
    (simp (figure, add-one at))

-- and how it goes on and stops, at an index of the bytes that are left
pub goes_more : (rest : List ℕ) (value at i : ℕ) → i < length rest → goes_on value (get_or rest i 0) ≡ true
    → going_on value at (drop i rest) ≡ going_on (value * 10 + (get_or rest i 0 - 0x30)) (at + 1) (drop (i + 1) rest)
unfolding going_on with_figure
goes_more rest value at i h goes = rw (drop-cons rest i 0 h) (simp (goes, add-one i))

pub goes_stop : (rest : List ℕ) (value at i : ℕ) → i < length rest → goes_on value (get_or rest i 0) ≡ false
    → going_on value at (drop i rest) ≡ good_numeral value at
unfolding going_on
goes_stop rest value at i h stops = rw (drop-cons rest i 0 h) (simp stops)

pub goes_end : (rest : List ℕ) (value at i : ℕ) → length rest ≤ i → going_on value at (drop i rest) ≡ good_numeral value at
unfolding going_on
goes_end rest value at i h = rw (drop_of_length-le rest h)
