-- Steps of reading, one behind the other: what is read stands there, and what stands there is read. Assumes nothing.
use Prim.Native.Nat.{ℕ, ◌+◌}
use mathlib.Core.Path.{◌≡◌, refl, sym, ap, ◌∙◌}
use mathlib.Core.List.{List, [], ◌∷◌, ◌++◌, append_assoc}
use mathlib.Core.Bool.{Bool, true, false, cond, true≢false}
use native.Mathlib.Nat.{add-zero}
use native.Mathlib.Omega.{arith}
use borrow.Author.Tests.{ne_eqb}
use lib.ListN.{length, drop, length-append}
use Rattle.std.specs.Prelude.{Option, Some, None}
use Rattle.decimal.specs.Reading.{is_figure, numeral_at}
use Rattle.decimal.specs.declared.Numeral.{Numeral}
use Rattle.decimal.proofs.Numbers.{number_read, found_stands}
use Rattle.lines.specs.declared.Stop.{Stop}
use Rattle.lines.specs.Reading.{nothing, number, separator, good_stop, fault, is_good, has_at, mark_at, word_at}
use Rattle.lines.specs.Fields.{good_field, field_at}
use Rattle.lines.proofs.Marks.{mark_there, mark_missing}
use Rattle.lines.proofs.Places.{field_none, field_open, field_closed}
use Rattle.sheet_promises.specs.Grammar.{IsField}
use Rattle.sheet_promises.proofs.Standing.{Part, behind, stands_has, has_stands}

-- a step behind another that ends well: the other ended well, and the step was made. The steps are what they are where the one before had a fault: that fault
pub followed : {R : Type 0} (stop : R → Stop) (before : Stop) (step faulty : R) → stop faulty ≡ before
    → is_good (stop (cond (is_good before) step faulty)) ≡ true → (is_good before ≡ true) × (cond (is_good before) step faulty ≡ step)
followed {R} stop before step faulty same h = go (is_good before) refl h
  where
    go : (b : Bool) → is_good before ≡ b → is_good (stop (cond b step faulty)) ≡ true → (b ≡ true) × (cond b step faulty ≡ step)
    go true e h = (refl, refl)
    go false e h = absurd (true≢false (sym h ∙ ap is_good same ∙ e))

-- a fault of a step does not end well
never_good : (what at : ℕ) → (what ≡ nothing → ⊥) → is_good (fault what at) ≡ true → ⊥
never_good what at real h = true≢false (sym h ∙ ne_eqb what nothing real)

-- one given byte
pub mark_read : (text : List ℕ) (at next mark what : ℕ) → Part text at (mark ∷ []) next → mark_at text at mark what ≡ good_stop next
mark_read text at next mark what p = mark_there text at mark what (stands_has text (drop next text) at mark p.cut) ∙ ap good_stop (sym p.ends)

pub mark_stands : (text : List ℕ) (at mark what : ℕ) → (what ≡ nothing → ⊥) → is_good (mark_at text at mark what) ≡ true
    → Part text at (mark ∷ []) (mark_at text at mark what).at
mark_stands text at mark what real h = go (has_at text at mark) refl
  where
    go : (b : Bool) → has_at text at mark ≡ b → Part text at (mark ∷ []) (mark_at text at mark what).at
    go true e = rw (mark_there text at mark what e) (record { cut = has_stands text at mark e; ends = refl })
    go false e = absurd (never_good what at real (rw (mark_missing text at mark what e) at h))

-- given bytes, one after the other
pub word_read : (text letters : List ℕ) (at next what : ℕ) → Part text at letters next → word_at text at letters what ≡ good_stop next
unfolding word_at
word_read text [] at next what p = ap good_stop (sym (add-zero at) ∙ sym p.ends)
word_read text (letter ∷ letters) at next what p =
    let e = p.ends in
    simp (stands_has text (letters ++ drop next text) at letter p.cut)
    (word_read text letters (at + 1) next what
    (record { cut = behind text (letter ∷ []) (letters ++ drop next text) at p.cut; ends = omega arith }))

pub word_stands : (text letters : List ℕ) (at what : ℕ) → (what ≡ nothing → ⊥) → is_good (word_at text at letters what) ≡ true
    → Part text at letters (word_at text at letters what).at
unfolding word_at
word_stands text [] at what real h = record { cut = refl; ends = sym (add-zero at) }
word_stands text (letter ∷ letters) at what real h = go (has_at text at letter) refl (word_stands text letters (at + 1) what real)
  where
    go : (b : Bool) → has_at text at letter ≡ b
        → (is_good (word_at text (at + 1) letters what) ≡ true → Part text (at + 1) letters (word_at text (at + 1) letters what).at)
        → Part text at (letter ∷ letters) (word_at text at (letter ∷ letters) what).at
    go true e next =
        let p = next (simp e at h) in
        let ends = p.ends in
        simp e (record { cut = has_stands text at letter e ∙ ap (λ (l : List ℕ). letter ∷ l) p.cut; ends = omega arith })
    go false e next = absurd (never_good what at real (simp e at h))

-- a number and its ending
pub field_read : (text piece : List ℕ) (at next value ending : ℕ) → is_figure ending ≡ false → IsField piece value ending → Part text at piece next
    → field_at text at ending ≡ good_field value next
field_read text piece at next value ending other f p =
    let figures : List ℕ = f.number in
    let rest : List ℕ = drop next text in
    let stands : drop at text ≡ figures ++ (ending ∷ rest) =
    p.cut ∙ ap (λ (l : List ℕ). l ++ rest) f.whole ∙ append_assoc figures (ending ∷ []) rest in
    let n = number_read text figures (ending ∷ rest) at value f.is_number (λ byte more e. ends_so byte more e) stands in
    let closed : has_at text (at + length figures) ending ≡ true = stands_has text rest (at + length figures) ending (behind text figures (ending ∷ rest) at stands) in
    let place : at + length figures + 1 ≡ next = omega (arith, ap length f.whole, length-append figures (ending ∷ []), p.ends) in
    field_closed text at ending (record { value = value; next = at + length figures }) n closed ∙ ap (good_field value) place
  where
    ends_so : (byte : ℕ) (more : List ℕ) → ending ∷ drop next text ≡ byte ∷ more → is_figure byte ≡ false
    ends_so byte more e = let same : ending ≡ byte = cc in rw (← same) other

-- what is read as a field stands there
pub record FieldStands (text : List ℕ) (at ending : ℕ) : Type 0 where
  pub piece : List ℕ
  pub is_field : IsField piece (field_at text at ending).value ending
  pub part : Part text at piece (field_at text at ending).stop.at

module _ (text : List ℕ) (at ending : ℕ) (h : is_good (field_at text at ending).stop ≡ true) where
  pub field_stands : FieldStands text at ending
  field_stands = go (numeral_at text at) refl
    where
      closed_there : (n : Numeral) → numeral_at text at ≡ Some n → (b : Bool) → has_at text n.next ending ≡ b → FieldStands text at ending
      closed_there n e false missing = absurd (never_good separator n.next (λ z. omega arith) (rw (field_open text at ending n e missing) at h))
      closed_there n e true closed =
          let b = found_stands text at n e in
          let ends = b.ends in
          let read = sym (field_closed text at ending n e closed) in
          record {
            piece = b.number ++ (ending ∷ []);
            is_field = rw (← read) (record { number = b.number; is_number = b.is_number; whole = refl });
            part =
                rw (← read)
                (record {
                  cut =
                      b.cut
                      ∙ ap (λ (l : List ℕ). b.number ++ l) (has_stands text n.next ending closed)
                      ∙ sym (append_assoc b.number (ending ∷ []) (drop (n.next + 1) text));
                  ends = omega (arith, length-append b.number (ending ∷ []));
                });
          }

      go : (o : Option Numeral) → numeral_at text at ≡ o → FieldStands text at ending
      go None e = absurd (never_good number at (λ z. omega arith) (rw (field_none text at ending e) at h))
      go (Some n) e = closed_there n e (has_at text n.next ending) refl
