-- Given bytes at a place. Assumes nothing.
use Prim.Native.Nat.{ℕ, ◌+◌, ◌<◌, ◌≤◌}
use mathlib.Core.Path.{◌≡◌, refl, sym, ap, ◌∙◌}
use mathlib.Core.Logic.{⊎_elim}
use mathlib.Core.List.{List}
use mathlib.Core.Bool.{true, false}
use native.Mathlib.Numerals.{add-one}
use native.Mathlib.Omega.{arith}
use Rattle.std.specs.Prelude.{Option, Some, None}
use Rattle.std.specs.Borrow.{Bor}
use Rattle.std.specs.Option.{option_eq}
use Rattle.std.specs.Slice.{IsItemAt}
use borrow.Author.Tests.{ltb-true, lt-ltb, le-ltb, eqb-true, eqb-false}
use lib.Dec.{ltb, eqb}
use lib.ListN.{length, get_or, drop, drop_of_length-le}
use lib.Seq.{drop-cons}
use Rattle.lines.specs.declared.Fault.{Fault}
use Rattle.lines.specs.declared.Wanted.{Wanted}
use Rattle.lines.specs.declared.Wanted.TheVariants
use Rattle.lines.specs.declared.Stop.{Stop}
use Rattle.lines.specs.Reading.{nothing, number_by, fault_of, good_stop, fault, is_good, has_at, mark_at, word_at, mark_after, word_after}
use Rattle.truth.proofs.Tests.{first, second, either}

-- a byte that is there stands before the end, and the next place is a place
pub has_below : (text : List ℕ) (at byte : ℕ) → has_at text at byte ≡ true → at < length text
unfolding has_at
has_below text at byte h = ltb-true at (length text) (first (ltb at (length text)) (eqb (get_or text at 0) byte) h)

pub has_byte : (text : List ℕ) (at byte : ℕ) → has_at text at byte ≡ true → get_or text at 0 ≡ byte
unfolding has_at
has_byte text at byte h = eqb-true _ _ (second (ltb at (length text)) (eqb (get_or text at 0) byte) h)

pub has_not : (text : List ℕ) (at byte : ℕ) → length text ≤ at → has_at text at byte ≡ false
unfolding has_at
has_not text at byte h = simp (le-ltb at (length text) h)

-- the byte of a place before the end
pub has_in : (text : List ℕ) (at byte : ℕ) → at < length text → has_at text at byte ≡ eqb (get_or text at 0) byte
unfolding has_at
has_in text at byte h = simp (lt-ltb at (length text) h)

-- what `get` gives of the text tells it
pub has_got : (text : List ℕ) (at : ℕ) (r : Option (Bor ℕ)) (byte : Bor ℕ) → IsItemAt text at r
    → option_eq (λ (x y : Bor ℕ). eqb x.now y.now) r (Some byte) ≡ has_at text at byte.now
has_got text at None byte h = sym (has_not text at byte.now h.3)
has_got text at (Some x) byte h =
    let within : at < length text = ltb-true _ _ (sym h.0) in
    let here : x.now ≡ get_or text at 0 = h.4 (omega arith) 0 in
    rw (has_in text at byte.now within, here)

-- a given byte is there, or it is wanted
pub mark_there : (text : List ℕ) (at mark what : ℕ) → has_at text at mark ≡ true → mark_at text at mark what ≡ good_stop (at + 1)
unfolding mark_at
mark_there text at mark what h = simp h

pub mark_missing : (text : List ℕ) (at mark what : ℕ) → has_at text at mark ≡ false → mark_at text at mark what ≡ fault what at
unfolding mark_at
mark_missing text at mark what h = simp h

-- a fault wants something
pub wants : (w : Wanted) → eqb (number_by w) nothing ≡ false
wants TheVariants.Word = refl
wants TheVariants.Number = refl
wants TheVariants.Separator = refl
wants TheVariants.Digit = refl

pub wanted_not : (w : Wanted) → number_by w ≡ nothing → ⊥
wanted_not w e = eqb-false _ _ (wants w) e

-- what a byte's step answered tells whether the byte is there
pub mark_lacks : (text : List ℕ) (at mark what : ℕ) (f : Fault) → fault_of f ≡ mark_at text at mark what → has_at text at mark ≡ false
mark_lacks text at mark what f e =
    ⊎_elim
    (λ there. absurd (wanted_not f.wanted (ap (λ (s : Stop). s.wanted) (e ∙ mark_there text at mark what there))))
    (λ missing. missing)
    (either (has_at text at mark))

pub mark_found : (text : List ℕ) (at mark : ℕ) (w : Wanted) (next : ℕ) → good_stop next ≡ mark_at text at mark (number_by w)
    → (has_at text at mark ≡ true) × (next ≡ at + 1)
mark_found text at mark w next e =
    ⊎_elim
    (λ there. (there, ap (λ (s : Stop). s.at) (e ∙ mark_there text at mark (number_by w) there)))
    (λ missing. absurd (wanted_not w (sym (ap (λ (s : Stop). s.wanted) (e ∙ mark_missing text at mark (number_by w) missing)))))
    (either (has_at text at mark))

-- the letters of a word from the i-th on: one more is there, it is missing, or all are there
pub word_more : (text letters : List ℕ) (at i what : ℕ) → i < length letters → has_at text at (get_or letters i 0) ≡ true
    → word_at text at (drop i letters) what ≡ word_at text (at + 1) (drop (i + 1) letters) what
unfolding word_at
word_more text letters at i what h there = rw (add-one i, drop-cons letters i 0 h) (simp there)

pub word_missing : (text letters : List ℕ) (at i what : ℕ) → i < length letters → has_at text at (get_or letters i 0) ≡ false
    → word_at text at (drop i letters) what ≡ fault what at
unfolding word_at
word_missing text letters at i what h missing = rw (drop-cons letters i 0 h) (simp missing)

pub word_done : (text letters : List ℕ) (at i what : ℕ) → length letters ≤ i → word_at text at (drop i letters) what ≡ good_stop at
unfolding word_at
word_done text letters at i what h = rw (drop_of_length-le letters h)

-- the same from what a letter's step answered
pub word_stops : (text letters : List ℕ) (at i what : ℕ) (f : Fault) → i < length letters → fault_of f ≡ mark_at text at (get_or letters i 0) what
    → fault_of f ≡ word_at text at (drop i letters) what
word_stops text letters at i what f h e =
    let missing : has_at text at (get_or letters i 0) ≡ false = mark_lacks _ _ _ _ f e in
    e ∙ mark_missing _ _ _ _ missing ∙ sym (word_missing text letters at i what h missing)

pub word_goes_on : (text letters : List ℕ) (at i : ℕ) (w : Wanted) (next : ℕ) → i < length letters
    → good_stop next ≡ mark_at text at (get_or letters i 0) (number_by w)
    → word_at text at (drop i letters) (number_by w) ≡ word_at text next (drop (i + 1) letters) (number_by w)
word_goes_on text letters at i w next h e =
    let found = mark_found text at (get_or letters i 0) w next e in
    rw (found.1) (word_more text letters at i (number_by w) h found.0)

pub ruleset word_steps = (word_stops, word_goes_on, word_done)

-- behind a fault
pub mark_stays : (text : List ℕ) (s : Stop) (mark what : ℕ) → is_good s ≡ false → mark_after text s mark what ≡ s
unfolding mark_after
mark_stays text s mark what h = simp h

pub word_stays : (text : List ℕ) (s : Stop) (letters : List ℕ) (what : ℕ) → is_good s ≡ false → word_after text s letters what ≡ s
unfolding word_after
word_stays text s letters what h = simp h
