-- How long a sheet can be. Assumes nothing.
use Prim.Native.Nat.{ℕ, zero, suc, ◌+◌, ◌*◌, ◌-◌, ◌^◌, ◌<◌, ◌≤◌}
use mathlib.Core.Path.{◌≡◌, refl, ap, ◌∙◌}
use mathlib.Core.List.{List, [], ◌∷◌, ◌++◌}
use native.Mathlib.Nat.{pow-suc}
use native.Mathlib.Omega.{arith}
use native.Mathlib.Decide.{dec_lt}
use lib.ListN.{length, length-append}
use Rattle.decimal.specs.Numbers.{Decimal, figure, longer, IsNumber}
use Rattle.rules.proofs.Rules.{count_rule_is, note_rule_is}
use Rattle.lines.specs.declared.Entry.{Entry}
use Rattle.sheet_promises.specs.Grammar.{IsDigest, IsField, IsHeader, IsLine, Lines, no_line, line, AllObey, no_entry_lem, entry, IsSheet}

-- a number below a power of ten has as many figures at most
figures_most : (n : ℕ) (text : List ℕ) (value : ℕ) → Decimal text value → value < 10 ^ suc n → length text ≤ suc n
figures_most n text value (figure d below) fits = omega arith
figures_most zero text value (longer {value = high} d begun positive below) fits =
    let ten : 10 ^ 1 ≡ 10 = refl in
    absurd (omega arith)
figures_most (suc n) text value (longer {text = front} {value = high} d begun positive below) fits =
    let power = pow-suc 10 (suc n) in
    let fewer = figures_most n front high begun (omega arith) in
    omega (arith, length-append front ((0x30 + d) ∷ []))

field_most : (n : ℕ) (text : List ℕ) (value ending : ℕ) → IsField text value ending → value < 10 ^ suc n → length text ≤ suc n + 1
unfolding IsNumber
field_most n text value ending f fits =
    let number = figures_most n f.number value f.is_number.0 fits in
    omega (arith, ap length f.whole ∙ length-append f.number (ending ∷ []))

-- every number of a sheet has ten figures at most
ten_figures : (text : List ℕ) (value ending : ℕ) → IsField text value ending → length text ≤ 11
unfolding IsNumber
ten_figures text value ending f =
    let power : 10 ^ 10 ≡ 10000000000 = refl in
    let most = f.is_number.1 in
    field_most 9 text value ending f (omega arith)

module _ (text : List ℕ) (e : Entry) (l : IsLine text e) where
  -- a line, but for its note's figures
  line_size : length text ≤ length l.note + 98
  unfolding IsDigest
  line_size =
      let one = ten_figures l.size _ _ l.is_length in
      let two = ten_figures l.start _ _ l.is_start in
      let three = ten_figures l.end _ _ l.is_end in
      let digest = l.is_digest.1 in
      omega (
        arith,
        ap length l.whole ∙ length-append l.note _,
        length-append l.size (l.start ++ (l.end ++ (l.digest ++ (10 ∷ [])))),
        length-append l.start (l.end ++ (l.digest ++ (10 ∷ []))),
        length-append l.end (l.digest ++ (10 ∷ [])),
        length-append l.digest (10 ∷ []),
      )

  one_figure : e.note < 10 → length text ≤ 100
  one_figure h =
      let ten : 10 ^ 1 ≡ 10 = refl in
      let note = field_most 0 l.note _ _ l.is_note_lem (omega arith) in
      let size = line_size in
      omega arith

  two_figures : e.note ≤ 32 → length text ≤ 101
  two_figures h =
      let hundred : 10 ^ 2 ≡ 100 = refl in
      let note = field_most 1 l.note _ _ l.is_note_lem (omega arith) in
      let size = line_size in
      omega arith

-- the lines after a note: 101 bytes for each note that can still come, and one less for each below 10
lines_size : (last : ℕ) (text : List ℕ) (es : List Entry) → Lines text es → AllObey last es → last ≤ 32 → length text + (9 - last) ≤ 101 * (32 - last)
lines_size last text es no_line no_entry_lem most = omega arith
lines_size last text es (line {text = front} {rest = rest} {e = e} {es = more} l ls) (entry o os) most =
    let range = (note_rule_is last e.note).0 o.note_rule_lem in
    let behind = lines_size e.note rest more ls os range.1 in
    let whole = length-append front rest in
    elim (dec_lt e.note 10) [
      | yes small ↦ let here = one_figure front e l small in omega arith
      | no large ↦ let here = two_figures front e l range.1 in omega arith
    ]

header_size : (text : List ℕ) (count : ℕ) → IsHeader text count → count ≤ 32 → length text ≤ 10
header_size text count h most =
    let hundred : 10 ^ 2 ≡ 100 = refl in
    let figures = field_most 1 h.field count 10 h.is_count (omega arith) in
    omega (arith, ap length h.whole)

pub sheet_size_lem : (text : List ℕ) (es : List Entry) → IsSheet text es → length text ≤ 3233
sheet_size_lem text es s =
    let header = header_size s.header (length es) s.is_header ((count_rule_is (length es)).0 s.count_rule_lem).1 in
    let lines = lines_size 0 s.lines es s.are_lines s.obeyed (omega arith) in
    omega (arith, ap length s.whole ∙ length-append s.header s.lines)
