-- The crate's promises, proved. Assumes nothing.
use Prim.Native.Nat.{ℕ, zero, suc, ◌+◌, ◌*◌, ◌<◌, ◌≤◌}
use mathlib.Core.Path.{◌≡◌, refl, sym, ap, ◌∙◌}
use mathlib.Core.List.{List, [], ◌∷◌, ◌++◌, append_assoc, append-nil}
use mathlib.Core.Bool.{true, false}
use native.Mathlib.Nat.{add-zero}
use native.Mathlib.Omega.{arith}
use borrow.Author.Tests.{eqb-true, eq-eqb, ne_eqb}
use lib.ListN.{length, get_or}
use Rattle.lines.specs.declared.Stop.{Stop}
use Rattle.lines.specs.Reading.{digit, good_stop, fault, is_good, has_at, mark_after, word_at, word_after}
use Rattle.lines.specs.Fields.{good_digest, digest_fault, digit_at, pair_at, field_after, digest_from, digest_at, digest_after}
use Rattle.lines.specs.Lines.{no_entry}
use Rattle.rules.specs.Rules.{zero_record}
use Rattle.lines.specs.Promises.{LettersBefore, DigitsBefore, bytes_at, AfterFault, Promises}
use Rattle.lines.proofs.Marks.{has_below, has_byte, has_in, mark_there, mark_missing, mark_stays, word_stays}
use Rattle.lines.proofs.Places.{field_none, field_open, field_closed, field_stays}
use Rattle.lines.proofs.Digests.{pair_none, pair_one, pair_both, digest_stays}
use Rattle.lines.proofs.Once.{stop_once, field_once, digest_once, line_once}
use Rattle.lines.proofs.Whole.{line_bad, line_good, header_is}

-- what holds from a place on holds one further on, from the place behind it
shift : (P : ℕ → ℕ → Type 0) (at j : ℕ) → P (at + suc j) (suc j) → P (at + 1 + j) (suc j)
shift P at j h = let next : at + suc j ≡ at + 1 + j = omega arith in rw next at h

words_there : (text letters : List ℕ) (at what : ℕ) → LettersBefore (length letters) text at letters
    → word_at text at letters what ≡ good_stop (at + length letters)
unfolding word_at
words_there text [] at what h = rw (add-zero at)
words_there text (letter ∷ letters) at what h =
    let there : has_at text at letter ≡ true = rw (add-zero at) at (h 0 (omega arith)) in
    let next : at + 1 + length letters ≡ at + suc (length letters) = omega arith in
    rw there
    (words_there text letters (at + 1) what (λ j l. shift (λ place k. has_at text place (get_or (letter ∷ letters) k 0) ≡ true) at j (h (suc j) (omega arith)))
    ∙ ap good_stop next)

words_wanted : (text letters : List ℕ) (at what i : ℕ) → i < length letters → LettersBefore i text at letters
    → has_at text (at + i) (get_or letters i 0) ≡ false → word_at text at letters what ≡ fault what (at + i)
unfolding word_at
words_wanted text [] at what i l h missing = absurd (omega arith)
words_wanted text (letter ∷ letters) at what zero l h missing = rw (rw (add-zero at) at missing, add-zero at)
words_wanted text (letter ∷ letters) at what (suc i) l h missing =
    let there : has_at text at letter ≡ true = rw (add-zero at) at (h 0 (omega arith)) in
    let next : at + 1 + i ≡ at + suc i = omega arith in
    rw there
    (words_wanted text letters (at + 1) what i (omega arith)
    (λ j k. shift (λ place k'. has_at text place (get_or (letter ∷ letters) k' 0) ≡ true) at j (h (suc j) (omega arith)))
    (shift (λ place k'. has_at text place (get_or (letter ∷ letters) k' 0) ≡ false) at i missing)
    ∙ ap (fault what) next)

-- digits, two at a time
further : (i : ℕ) (text : List ℕ) (at : ℕ) → DigitsBefore (i + 2) text at → DigitsBefore i text (at + 2)
further i text at h j l = let next : at + (j + 2) ≡ at + 2 + j = omega arith in rw next at (h (j + 2) (omega arith))

digits_there : (n : ℕ) (text : List ℕ) (at : ℕ) (done : List ℕ) → DigitsBefore (n * 2) text at
    → digest_from n text at done ≡ good_digest (done ++ bytes_at n text at) (at + n * 2)
unfolding digest_from bytes_at digit_at pair_at
digits_there zero text at done h = rw (append-nil done, add-zero at)
digits_there (suc n) text at done h =
    let high : digit_at text at < 16 = rw (add-zero at) at (h 0 (omega arith)) in
    let low : digit_at text (at + 1) < 16 = h 1 (omega arith) in
    let next : at + 2 + n * 2 ≡ at + suc n * 2 = omega arith in
    pair_both n text at done high low
    ∙ digits_there n text (at + 2) (done ++ (pair_at text at ∷ [])) (further (n * 2) text at (λ j l. h j (omega arith)))
    ∙ rw (next, append_assoc done (pair_at text at ∷ []) (bytes_at n text (at + 2)))

digits_wanted : (n i : ℕ) (text : List ℕ) (at : ℕ) (done : List ℕ) → i < n * 2 → DigitsBefore i text at → 16 ≤ digit_at text (at + i)
    → digest_from n text at done ≡ digest_fault (fault digit (at + i))
digits_wanted zero i text at done l h missing = absurd (omega arith)
digits_wanted (suc n) zero text at done l h missing = rw (add-zero at) (pair_none n text at done (rw (add-zero at) at missing))
digits_wanted (suc n) (suc zero) text at done l h missing = pair_one n text at done (rw (add-zero at) at (h 0 (omega arith))) missing
digits_wanted (suc n) (suc (suc i)) text at done l h missing =
    let high : digit_at text at < 16 = rw (add-zero at) at (h 0 (omega arith)) in
    let low : digit_at text (at + 1) < 16 = h 1 (omega arith) in
    let next : at + 2 + i ≡ at + suc (suc i) = omega arith in
    pair_both n text at done high low
    ∙ rw (← next)
    (digits_wanted n i text (at + 2) (done ++ (pair_at text at ∷ [])) (omega arith) (further i text at (λ j k. h j (omega arith))) (rw (← next) at missing))

faulty : (before : Stop) → (before.wanted ≡ 0 → ⊥) → is_good before ≡ false
faulty before bad = ne_eqb before.wanted 0 bad

after_fault : (text : List ℕ) (before : Stop) → (before.wanted ≡ 0 → ⊥) → AfterFault text before
after_fault text before bad =
    record {
      mark = λ byte what. mark_stays text before byte what (faulty before bad);
      letters = λ bytes what. word_stays text before bytes what (faulty before bad);
      field = λ ending. field_stays text before ending (faulty before bad);
      digest = digest_stays text before (faulty before bad);
    }

pub proved : Promises
unfolding mark_after word_after field_after digest_after digest_at digit_at no_entry zero_record
proved =
    record {
      wants = refl;
      bytes = refl;
      wanted_told = refl;
      good_told = λ next value bytes e. record { stop = refl; field = refl; digest = refl; line = refl };
      fault_told = λ f. record { stop = refl; field = refl; digest = refl; line = refl };
      stop_once = stop_once;
      field_once = field_once;
      digest_once = digest_once;
      line_once = line_once;
      good_stop_lem = λ next. refl;
      is_good_lem = λ s. (eqb-true s.wanted 0, eq-eqb s.wanted 0);
      after_good = λ text at. record { mark = λ byte what. refl; letters = λ bytes what. refl; field = λ ending. refl; digest = refl };
      after_fault = after_fault;
      has = λ text at byte. (λ h. (has_below text at byte h, has_byte text at byte h), λ h. has_in text at byte h.0 ∙ eq-eqb _ _ h.1);
      mark_there = mark_there;
      mark_wanted = mark_missing;
      word_there = λ text at letters what h. words_there text letters at what h;
      word_wanted = λ text at letters what i l h missing. words_wanted text letters at what i l h missing;
      field_there = λ text at ending n found there. field_closed text at ending n found there;
      ending_wanted = λ text at ending n found missing. field_open text at ending n found missing;
      number_wanted = λ text at ending none. field_none text at ending none;
      digit_at_lem = λ text at. refl;
      digest_there = λ text at h. digits_there 32 text at [] h;
      digit_wanted = λ text at i l h missing. digits_wanted 32 i text at [] l h missing;
      line_good = λ text at s good. sym (line_good text at s (eq-eqb _ _ good));
      line_bad = λ text at s bad. sym (line_bad text at s (faulty s.close bad));
      header = λ text at edition s. sym (header_is text at edition s);
    }
