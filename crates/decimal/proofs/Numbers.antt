-- What is read as a number is one, and each number is read. Assumes nothing.
use Prim.Native.Nat.{ℕ, ◌+◌, ◌*◌, ◌-◌, ◌≤◌}
use mathlib.Core.Path.{◌≡◌, refl, sym, ap, ◌∙◌}
use mathlib.Core.List.{List, [], ◌∷◌, ◌++◌, append_assoc, append-nil}
use mathlib.Core.Bool.{Bool, true, false, cond}
use native.Mathlib.Nat.{add-zero}
use native.Mathlib.Omega.{arith}
use borrow.Author.Tests.{le-leb}
use lib.ListN.{length, drop, length-append}
use lib.Seq.{drop-drop, drop-append_seam}
use Rattle.std.specs.Prelude.{Some, None}
use Rattle.std.proofs.lemmas.Option.{none-some, same_Some, cond_some}
use Rattle.decimal.specs.Reading.{good_numeral, is_figure, with_figure, goes_on, going_on, first_numeral, numeral_at}
use Rattle.decimal.proofs.Steps.{figure_from, figure_to, is_figure_lem, goes_figure, goes_positive, goes_fits, goes_by, goes_not}
use Rattle.decimal.specs.Numbers.{Decimal, figure, longer, IsNumber}
use Rattle.decimal.specs.Promises.{Stands, NoFigure}
use Rattle.decimal.specs.declared.Numeral.{Numeral}

-- a figure's value, and the number with it
figure_value : (d : ℕ) → 0x30 + d - 0x30 ≡ d
figure_value d = omega arith

-- the reader has come through a decimal number
through : (at : ℕ) (text : List ℕ) (value : ℕ) (rest : List ℕ) → Decimal text value → value ≤ 4294967295
    → first_numeral at (text ++ rest) ≡ Some (going_on value (at + length text) rest)
unfolding first_numeral going_on with_figure
through at text value rest (figure d below) fits =
    simp (is_figure_lem (0x30 + d) (omega arith) (omega arith), figure_value d)
through at text value rest (longer {text = front} {value = high} d begun positive below) fits =
    let c : ℕ = 0x30 + d in
    let goes : goes_on high c ≡ true =
    goes_by high c (is_figure_lem c (omega arith) (omega arith)) positive ∙ le-leb (high * 10 + (c - 0x30)) 4294967295 (omega arith) in
    let place : at + length front + 1 ≡ at + length (front ++ (c ∷ [])) = omega (arith, length-append front (c ∷ [])) in
    ap (first_numeral at) (append_assoc front (c ∷ []) rest)
    ∙ through at front high (c ∷ rest) begun (omega arith)
    ∙ simp (goes, figure_value d, place)

-- a number before something that is no figure is read
stops : (value at : ℕ) (rest : List ℕ) → NoFigure rest → going_on value at rest ≡ good_numeral value at
unfolding going_on
stops value at [] other = refl
stops value at (byte ∷ rest) other = simp (goes_not value byte (other byte rest refl))

pub number_read : (text number rest : List ℕ) (at value : ℕ) → IsNumber number value → NoFigure rest → drop at text ≡ number ++ rest
    → numeral_at text at ≡ Some (good_numeral value (at + length number))
unfolding IsNumber numeral_at
number_read text number rest at value n other e =
    ap (first_numeral at) e ∙ through at number value rest n.0 n.1 ∙ ap Some (stops value (at + length number) rest other)

-- one figure more
one_more : (front : List ℕ) (value byte : ℕ) → Decimal front value → goes_on value byte ≡ true → Decimal (front ++ (byte ∷ [])) (with_figure value byte)
unfolding with_figure
one_more front value byte begun e =
    let low : 0x30 ≤ byte = figure_from byte (goes_figure value byte e) in
    let high : byte ≤ 0x39 = figure_to byte (goes_figure value byte e) in
    let same : 0x30 + (byte - 0x30) ≡ byte = omega arith in
    rw same at (longer (byte - 0x30) begun (goes_positive value byte e) (omega arith))

-- what the reader has after a decimal number: more of it, and where that ends
record Goes (front : List ℕ) (value at : ℕ) (s : List ℕ) : Type 0 where
  pub more : List ℕ
  pub rest : List ℕ
  pub result : ℕ
  pub cut : s ≡ more ++ rest
  pub read : going_on value at s ≡ good_numeral result (at + length more)
  pub is_number : IsNumber (front ++ more) result

goes : (front : List ℕ) (value at : ℕ) (s : List ℕ) → Decimal front value → value ≤ 4294967295 → Goes front value at s
unfolding IsNumber going_on with_figure
goes front value at [] begun fits =
    record {
      more = [];
      rest = [];
      result = value;
      cut = refl;
      read = ap (good_numeral value) (sym (add-zero at));
      is_number = rw (append-nil front) (begun, fits);
    }
goes front value at (byte ∷ s) begun fits = go (goes_on value byte) refl (λ front' value'. goes front' value' (at + 1) s)
  where
    go : (p : Bool) → goes_on value byte ≡ p
        → ((front' : List ℕ) (value' : ℕ) → Decimal front' value' → value' ≤ 4294967295 → Goes front' value' (at + 1) s) → Goes front value at (byte ∷ s)
    go true e next =
        let g = next (front ++ (byte ∷ [])) (with_figure value byte) (one_more front value byte begun e) (goes_fits value byte e) in
        let place : at + 1 + length g.more ≡ at + length (byte ∷ g.more) = omega arith in
        record {
          more = byte ∷ g.more;
          rest = g.rest;
          result = g.result;
          cut = ap (λ (l : List ℕ). byte ∷ l) g.cut;
          read = simp e (g.read ∙ ap (good_numeral g.result) place);
          is_number = rw append_assoc at g.is_number;
        }
    go false e next =
        record {
          more = [];
          rest = byte ∷ s;
          result = value;
          cut = refl;
          read = simp e (ap (good_numeral value) (sym (add-zero at)));
          is_number = rw (append-nil front) (begun, fits);
        }

-- what stands first in a list, if a number is found there
record Begins (at : ℕ) (s : List ℕ) (n : Numeral) : Type 0 where
  text : List ℕ
  rest : List ℕ
  cut : s ≡ text ++ rest
  ends : n.next ≡ at + length text
  is_number : IsNumber text n.value

begins : (at : ℕ) (s : List ℕ) (n : Numeral) → first_numeral at s ≡ Some n → Begins at s n
unfolding first_numeral
begins at [] n h = absurd (none-some n h)
begins at (byte ∷ s) n h =
    let is : (is_figure byte ≡ true) × (going_on (byte - 0x30) (at + 1) s ≡ n) = cond_some (is_figure byte) _ n h in
    let low : 0x30 ≤ byte = figure_from byte is.0 in
    let high : byte ≤ 0x39 = figure_to byte is.0 in
    let same : 0x30 + (byte - 0x30) ≡ byte = omega arith in
    let g = goes (byte ∷ []) (byte - 0x30) (at + 1) s (rw same at (figure (byte - 0x30) (omega arith))) (omega arith) in
    let read : good_numeral g.result (at + 1 + length g.more) ≡ n = sym g.read ∙ is.1 in
    let place : at + 1 + length g.more ≡ at + length (byte ∷ g.more) = omega arith in
    record {
      text = byte ∷ g.more;
      rest = g.rest;
      cut = ap (λ (l : List ℕ). byte ∷ l) g.cut;
      ends = sym (ap (λ (m : Numeral). m.next) read) ∙ place;
      is_number = rw (ap (λ (m : Numeral). m.value) read) at g.is_number;
    }

pub found_stands : (text : List ℕ) (at : ℕ) (n : Numeral) → numeral_at text at ≡ Some n → Stands text at n.next n.value
unfolding numeral_at
found_stands text at n h =
    let b = begins at (drop at text) n h in
    let rest : drop n.next text ≡ b.rest =
    ap (λ (k : ℕ). drop k text) b.ends
    ∙ sym (drop-drop (length b.text) at text)
    ∙ ap (drop (length b.text)) b.cut
    ∙ drop-append_seam b.text b.rest in
    record { number = b.text; is_number = b.is_number; cut = rw rest b.cut; ends = b.ends }

-- where none is found, none begins
pub none_stands : (text : List ℕ) (at : ℕ) → numeral_at text at ≡ None
    → (number rest : List ℕ) (value : ℕ) → IsNumber number value → drop at text ≡ number ++ rest → ⊥
unfolding numeral_at IsNumber
none_stands text at h number rest value n e = none-some _ (sym h ∙ ap (first_numeral at) e ∙ through at number value rest n.0 n.1)

-- a number that stands there is not longer than the one that is read
further : (value at : ℕ) (s : List ℕ) → at ≤ (going_on value at s).next
unfolding going_on
further value at [] = omega arith
further value at (byte ∷ s) = go (goes_on value byte) (further (with_figure value byte) (at + 1) s)
  where
    go : (p : Bool) → at + 1 ≤ (going_on (with_figure value byte) (at + 1) s).next
        → at ≤ (cond p (going_on (with_figure value byte) (at + 1) s) (good_numeral value at)).next
    go true h = omega arith
    go false h = omega arith

pub longest_read : (text number rest : List ℕ) (at value : ℕ) → IsNumber number value → drop at text ≡ number ++ rest
    → (n : Numeral) × (numeral_at text at ≡ Some n) × (at + length number ≤ n.next)
unfolding IsNumber numeral_at
longest_read text number rest at value is e =
    let place : ℕ = at + length number in
    (going_on value place rest, ap (first_numeral at) e ∙ through at number value rest is.0 is.1, further value place rest)

-- a number has one spelling
pub one_decimal : (text other : List ℕ) (value same : ℕ) → Decimal text value → Decimal other same → value ≡ same → text ≡ other
one_decimal text other value same (figure d below) (figure c under) e = ap (λ (k : ℕ). (0x30 + k) ∷ []) e
one_decimal text other value same (figure d below) (longer c begun positive under) e = absurd (omega arith)
one_decimal text other value same (longer d begun positive below) (figure c under) e = absurd (omega arith)
one_decimal text other value same (longer {text = front} {value = high} d begun positive below) (longer {text = front'} {value = high'} c begun' positive' under) e =
    let last : d ≡ c = omega arith in
    let first : high ≡ high' = omega arith in
    let fronts : front ≡ front' = one_decimal front front' high high' begun begun' first in
    cc

-- and a spelling is of one number
value_from : (high : ℕ) (text : List ℕ) → ℕ
value_from high [] = high
value_from high (byte ∷ rest) = value_from (high * 10 + (byte - 0x30)) rest

value_last : (high byte : ℕ) (text : List ℕ) → value_from high (text ++ (byte ∷ [])) ≡ value_from high text * 10 + (byte - 0x30)
unfolding value_from
value_last high byte [] = refl
value_last high byte (first ∷ rest) = value_last (high * 10 + (first - 0x30)) byte rest

value_is : (text : List ℕ) (value : ℕ) → Decimal text value → value_from 0 text ≡ value
unfolding value_from
value_is text value (figure d below) = omega arith
value_is text value (longer {text = front} {value = high} d begun positive below) =
    value_last 0 (0x30 + d) front ∙ rw (value_is front high begun, figure_value d)

pub one_value : (text : List ℕ) (value other : ℕ) → Decimal text value → Decimal text other → value ≡ other
one_value text value other d e = sym (value_is text value d) ∙ value_is text other e
