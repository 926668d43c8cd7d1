-- What stands at a place of a text, and what stands behind it. Assumes nothing.
use Prim.Native.Nat.{ℕ, ◌+◌, ◌<◌}
use mathlib.Core.Path.{◌≡◌, refl, sym, ap, ◌∙◌}
use mathlib.Core.List.{List, ◌∷◌, ◌++◌, append_assoc}
use mathlib.Core.Bool.{true}
use native.Mathlib.Nat.{add-zero}
use native.Mathlib.Numerals.{add-one}
use native.Mathlib.Omega.{arith}
use borrow.Author.Tests.{eq-eqb}
use lib.ListN.{length, get_or, drop, length-drop, length-append}
use lib.Seq.{drop-cons, drop-drop, drop-append_seam, get_or-drop}
use Rattle.lines.specs.Reading.{has_at}
use Rattle.lines.proofs.Marks.{has_below, has_byte, has_in}

-- a piece of a text stands from one place up to the next
pub record Part (text : List ℕ) (at : ℕ) (piece : List ℕ) (next : ℕ) : Type 0 where
  pub cut : drop at text ≡ piece ++ drop next text
  pub ends : next ≡ at + length piece

-- behind what stands at a place
pub behind : (text front rest : List ℕ) (at : ℕ) → drop at text ≡ front ++ rest → drop (at + length front) text ≡ rest
behind text front rest at e = sym (drop-drop (length front) at text) ∙ ap (λ (s : List ℕ). drop (length front) s) e ∙ drop-append_seam front rest

pub part_of : (text piece rest : List ℕ) (at : ℕ) → drop at text ≡ piece ++ rest → Part text at piece (at + length piece)
part_of text piece rest at e = record { cut = e ∙ ap (λ (l : List ℕ). piece ++ l) (sym (behind text piece rest at e)); ends = refl }

-- two pieces, one behind the other, are one; and the other way round
pub joins : {text p q : List ℕ} {a b c : ℕ} → Part text a p b → Part text b q c → Part text a (p ++ q) c
joins {text} {p} {q} {a} {b} {c} s t =
    let first = s.ends in
    let second = t.ends in
    record {
      cut = s.cut ∙ ap (λ (l : List ℕ). p ++ l) t.cut ∙ sym (append_assoc p q (drop c text));
      ends = omega (arith, length-append p q);
    }

pub joins_at : {text p q : List ℕ} {a b c d : ℕ} → b ≡ d → Part text a p d → Part text b q c → Part text a (p ++ q) c
joins_at {text} {p} {q} {a} {b} {c} {d} e s t = joins {p = p} (rw e s) t

module _ {text : List ℕ} (p q : List ℕ) {a c : ℕ} (s : Part text a (p ++ q) c) where
  apart : drop a text ≡ p ++ (q ++ drop c text)
  apart = s.cut ∙ append_assoc p q (drop c text)

  pub front_part : Part text a p (a + length p)
  front_part = part_of text p (q ++ drop c text) a apart

  pub back_part : Part text (a + length p) q c
  back_part = record { cut = behind text p (q ++ drop c text) a apart; ends = let e = s.ends in omega (arith, length-append p q) }

-- a byte that stands at a place
pub stands_below : (text rest : List ℕ) (at byte : ℕ) → drop at text ≡ byte ∷ rest → at < length text
stands_below text rest at byte e = omega (arith, ap length e, length-drop at text)

pub stands_byte : (text rest : List ℕ) (at byte : ℕ) → drop at text ≡ byte ∷ rest → get_or text at 0 ≡ byte
stands_byte text rest at byte e =
    ap (λ (k : ℕ). get_or text k 0) (sym (add-zero at)) ∙ sym (get_or-drop at text 0 0) ∙ ap (λ (s : List ℕ). get_or s 0 0) e

pub stands_has : (text rest : List ℕ) (at byte : ℕ) → drop at text ≡ byte ∷ rest → has_at text at byte ≡ true
stands_has text rest at byte e = has_in text at byte (stands_below text rest at byte e) ∙ eq-eqb _ _ (stands_byte text rest at byte e)

pub has_stands : (text : List ℕ) (at byte : ℕ) → has_at text at byte ≡ true → drop at text ≡ byte ∷ drop (at + 1) text
has_stands text at byte h = rw (add-one at, drop-cons text at 0 (has_below text at byte h), has_byte text at byte h)
