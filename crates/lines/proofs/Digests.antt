-- Digests, read two digits at a time. Assumes nothing.
use Prim.Native.Nat.{ℕ, suc, ◌+◌, ◌*◌, ◌-◌, ◌<◌, ◌≤◌}
use mathlib.Core.Path.{◌≡◌, sym, ap, ◌∙◌}
use mathlib.Core.Bool.{true, false}
use mathlib.Core.List.{List, [], ◌∷◌, ◌++◌}
use mathlib.Core.Logic.{⊎_elim}
use native.Mathlib.Numerals.{add-one}
use Rattle.truth.proofs.Tests.{below_or_not, either}
use Rattle.std.specs.Prelude.{Result, Ok, Err, Option, Some, None}
use Rattle.std.specs.Borrow.{Bor}
use Rattle.std.specs.Slice.{IsItemAt}
use lib.Dec.{ltb}
use native.Mathlib.Omega.{arith}
use borrow.Author.Tests.{lt-ltb, le-ltb, ltb-true, ltb-false}
use lib.ListN.{length, get_or, take, set, get_or-eq_default}
use lib.Seq.{take-suc-set, take_all}
use Rattle.hex_digits.specs.Digits.{digits}
use Rattle.hex_digits.proofs.Digits.{rule, no_byte}
use Rattle.lines.specs.declared.Fault.{Fault}
use Rattle.lines.specs.declared.Wanted.TheVariants
use Rattle.lines.specs.declared.Stop.{Stop}
use Rattle.lines.specs.Reading.{digit, fault, fault_of, is_good}
use Rattle.lines.specs.Fields.{good_digest, digest_fault, digit_at, is_digit_at, digit_read, pair_at, digest_from, digest_at, digest_after}

-- the digit at a place by the table, and past the end
pub digit_in : (text : List ℕ) (at : ℕ) → get_or text at 0 < 256 → get_or digits (get_or text at 0) 0 ≡ digit_at text at
unfolding digit_at
digit_in text at below = rule (get_or text at 0) below

pub digit_past : (text : List ℕ) (at : ℕ) → length text ≤ at → digit_at text at ≡ 255
unfolding digit_at
digit_past text at h = rw (get_or-eq_default text 0 {n = at} h) no_byte

-- a digit stands before the end
pub digit_before : (text : List ℕ) (at : ℕ) → digit_at text at < 16 → at < length text
digit_before text at h = ⊎_elim (λ l. l) (λ past. absurd (omega (arith, digit_past text at past))) (below_or_not at (length text))

-- what `get` gives of the text is looked up, and past the end there is no digit
pub digit_got : (text : List ℕ) (at value : ℕ) (code : Bor ℕ) → get_or text at 0 < 256 → IsItemAt text at (Some code) → value ≡ get_or digits code.now 0
    → value ≡ digit_at text at
digit_got text at value code below got e =
    let byte : code.now ≡ get_or text at 0 = got.4 (omega arith) 0 in
    e ∙ ap (λ (n : ℕ). get_or digits n 0) byte ∙ digit_in text at below

pub digit_not_got : (text : List ℕ) (at : ℕ) → IsItemAt text at None → 255 ≡ digit_at text at
digit_not_got text at got = sym (digit_past text at got.3)

-- a result is good or a fault, with one value
same_ok : {x y : ℕ} → ◌≡◌ {A = Result ℕ Fault} (Ok x) (Ok y) → x ≡ y
same_ok e = cc

same_err : {x y : Fault} → ◌≡◌ {A = Result ℕ Fault} (Err x) (Err y) → x ≡ y
same_err e = cc

ok_not_err : {x : ℕ} {y : Fault} → ◌≡◌ {A = Result ℕ Fault} (Ok x) (Err y) → ⊥
ok_not_err e = cc

-- what a digit's step answers: from the value that the table gave, and what that tells
module _ (text : List ℕ) (at value : ℕ) where
  pub digit_there : value ≡ digit_at text at → value < 16 → Ok value ≡ digit_read text at
  unfolding digit_read is_digit_at
  digit_there e h = rw (← e) (simp (lt-ltb value 16 h))

  pub digit_missing : value ≡ digit_at text at → 16 ≤ value → Err (record { wanted = TheVariants.Digit; at = at }) ≡ digit_read text at
  unfolding digit_read is_digit_at
  digit_missing e h = rw (← e) (simp (le-ltb value 16 h))

  pub digit_found : Ok value ≡ digit_read text at → (value ≡ digit_at text at) × (value < 16)
  unfolding digit_read is_digit_at
  digit_found e =
      ⊎_elim
      (λ (t : ltb (digit_at text at) 16 ≡ true). let is : value ≡ digit_at text at = same_ok (e ∙ simp t) in (is, rw is (ltb-true _ _ t)))
      (λ (f : ltb (digit_at text at) 16 ≡ false). absurd (ok_not_err {y = record { wanted = TheVariants.Digit; at = at }} (e ∙ simp f)))
      (either (ltb (digit_at text at) 16))

pub digit_lacks : (text : List ℕ) (at : ℕ) (missing : Fault) → Err missing ≡ digit_read text at
    → (16 ≤ digit_at text at) × (missing ≡ record { wanted = TheVariants.Digit; at = at })
unfolding digit_read is_digit_at
digit_lacks text at missing e =
    ⊎_elim
    (λ (t : ltb (digit_at text at) 16 ≡ true). absurd (ok_not_err {x = digit_at text at} (sym (e ∙ simp t))))
    (λ (f : ltb (digit_at text at) 16 ≡ false). (ltb-false _ _ f, same_err (e ∙ simp f)))
    (either (ltb (digit_at text at) 16))

pub found_before : (text : List ℕ) (at value : ℕ) → Ok value ≡ digit_read text at → (at < length text) × (value < 16)
found_before text at value e = let found = digit_found text at value e in (digit_before text at (rw (← found.0) found.1), found.1)

pub ruleset digit_steps = (digit_got, digit_not_got, digit_there, digit_missing)

-- a digit is missing at the first or the second of two places, or both are there
pub pair_none : (n : ℕ) (text : List ℕ) (at : ℕ) (done : List ℕ) → 16 ≤ digit_at text at → digest_from (suc n) text at done ≡ digest_fault (fault digit at)
unfolding digest_from is_digit_at
pair_none n text at done h = simp (le-ltb (digit_at text at) 16 h)

pub pair_one : (n : ℕ) (text : List ℕ) (at : ℕ) (done : List ℕ) → digit_at text at < 16 → 16 ≤ digit_at text (at + 1)
    → digest_from (suc n) text at done ≡ digest_fault (fault digit (at + 1))
unfolding digest_from is_digit_at
pair_one n text at done h k = simp (lt-ltb (digit_at text at) 16 h, le-ltb (digit_at text (at + 1)) 16 k)

pub pair_both : (n : ℕ) (text : List ℕ) (at : ℕ) (done : List ℕ) → digit_at text at < 16 → digit_at text (at + 1) < 16
    → digest_from (suc n) text at done ≡ digest_from n text (at + 2) (done ++ (pair_at text at ∷ []))
unfolding digest_from is_digit_at
pair_both n text at done h k = simp (lt-ltb (digit_at text at) 16 h, lt-ltb (digit_at text (at + 1)) 16 k)

-- the same in the loop, which has i bytes of 32
module _ (text bytes : List ℕ) (at i : ℕ) (more : i < 32) where
  left : 32 - i ≡ suc (32 - (i + 1))
  left = omega arith

  pub no_high : (f : Fault) → Err f ≡ digit_read text at → digest_fault (fault_of f) ≡ digest_from (32 - i) text at (take i bytes)
  no_high f e = let missing = digit_lacks text at f e in rw (missing.1, left) (sym (pair_none _ _ _ _ missing.0))

  module _ (high : ℕ) (eh : Ok high ≡ digit_read text at) where
    pub no_low : (f : Fault) → Err f ≡ digit_read text (at + 1) → digest_fault (fault_of f) ≡ digest_from (32 - i) text at (take i bytes)
    no_low f e =
        let found = digit_found text at high eh in
        let missing = digit_lacks text (at + 1) f e in
        rw (missing.1, left) (sym (pair_one _ _ _ _ (rw (← found.0) found.1) missing.0))

    pub one_byte : (low : ℕ) → Ok low ≡ digit_read text (at + 1) → length bytes ≡ 32
        → digest_from (32 - i) text at (take i bytes) ≡ digest_from (32 - (i + 1)) text (at + 2) (take (i + 1) (set bytes i (high * 16 + low)))
    unfolding pair_at
    one_byte low el l =
        let first = digit_found text at high eh in
        let second = digit_found text (at + 1) low el in
        rw left
        (pair_both _ _ _ _ (rw (← first.0) first.1) (rw (← second.0) second.1)
        ∙ rw (first.0, second.0, add-one i, take-suc-set bytes i (digit_at text at * 16 + digit_at text (at + 1)) (omega arith)))

pub all_bytes : (text bytes : List ℕ) (at i : ℕ) → 32 ≤ i → i ≤ 32 → length bytes ≡ 32 → digest_from (32 - i) text at (take i bytes) ≡ good_digest bytes at
unfolding digest_from
all_bytes text bytes at i h k l =
    let none : 32 - i ≡ 0 = omega arith in
    rw (none, take_all i bytes (omega arith))

pub ruleset digest_steps = (found_before, no_high, no_low, all_bytes)

-- behind a fault
pub digest_stays : (text : List ℕ) (s : Stop) → is_good s ≡ false → digest_after text s ≡ digest_fault s
unfolding digest_after
digest_stays text s h = simp h
