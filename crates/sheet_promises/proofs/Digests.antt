-- What is read as a digest is one, and each digest is read. Assumes nothing.
use Prim.Native.Nat.{ℕ, zero, suc, ◌+◌, ◌*◌, ◌<◌}
use mathlib.Core.Path.{◌≡◌, refl, sym, ap, ◌∙◌, subst}
use mathlib.Core.List.{List, [], ◌∷◌, ◌++◌, append_assoc, append-nil}
use mathlib.Core.Bool.{true, true≢false}
use mathlib.Core.Logic.{◌↔◌, ⊎_elim}
use native.Mathlib.Nat.{add-zero}
use native.Mathlib.Numerals.{add-one}
use native.Mathlib.Omega.{arith}
use lib.ListN.{length, get_or, drop}
use lib.Seq.{drop-cons}
use Rattle.hex_digits.specs.Digits.{digit_of}
use Rattle.hex_digits.proofs.Digits.{digit_value, digit_below, value_digit}
use Rattle.lines.specs.Reading.{digit, fault, is_good}
use Rattle.lines.specs.Fields.{DigestField, good_digest, digest_fault, digit_at, pair_at, digest_from, digest_at}
use Rattle.lines.proofs.Digests.{digit_before, pair_none, pair_one, pair_both}
use Rattle.truth.proofs.Tests.{below_or_not}
use Rattle.sheet_promises.specs.Grammar.{Pairs, no_pair, pair, IsDigest}
use Rattle.sheet_promises.specs.Promises.{TwoDigits}
use Rattle.sheet_promises.proofs.Standing.{Part, behind, stands_byte}

-- two digits a byte
pub two_a_byte : (text bytes : List ℕ) → Pairs text bytes → length text ≡ length bytes * 2
two_a_byte text bytes no_pair = refl
two_a_byte text bytes (pair {text = t} {bytes = b} high low dh dl more) = omega (arith, two_a_byte t b more)

-- pairs that stand at a place are read
pairs_read : (text piece bytes rest : List ℕ) (at : ℕ) (done : List ℕ) → Pairs piece bytes → drop at text ≡ piece ++ rest
    → digest_from (length bytes) text at done ≡ good_digest (done ++ bytes) (at + length piece)
unfolding digest_from digit_at pair_at
pairs_read text piece bytes rest at done no_pair e = rw (append-nil done, add-zero at)
pairs_read text piece bytes rest at done (pair {first = a} {second = b} {text = t} {bytes = bs} high low dh dl more) e =
    let next : drop (at + 1) text ≡ b ∷ (t ++ rest) = behind text (a ∷ []) (b ∷ (t ++ rest)) at e in
    let ha : digit_at text at ≡ high = ap digit_of (stands_byte text _ at a e) ∙ digit_value a high dh in
    let hb : digit_at text (at + 1) ≡ low = ap digit_of (stands_byte text _ (at + 1) b next) ∙ digit_value b low dl in
    let place : at + 2 + length t ≡ at + length (a ∷ b ∷ t) = omega arith in
    pair_both (length bs) text at done (rw ha (digit_below a high dh)) (rw hb (digit_below b low dl))
    ∙ pairs_read text t bs rest (at + 2) (done ++ (pair_at text at ∷ [])) more (behind text (a ∷ b ∷ []) (t ++ rest) at e)
    ∙ rw (ha, hb, place, append_assoc done ((high * 16 + low) ∷ []) bs)

pub digest_read : (text piece bytes : List ℕ) (at next : ℕ) → IsDigest piece bytes → Part text at piece next → digest_at text at ≡ good_digest bytes next
unfolding IsDigest digest_at
digest_read text piece bytes at next d p =
    let size : length bytes ≡ 32 = omega (arith, two_a_byte piece bytes d.0) in
    rw size at (pairs_read text piece bytes (drop next text) at [] d.0 p.cut) ∙ ap (good_digest bytes) (sym p.ends)

-- what is read as pairs stands there
record PairsStand (n : ℕ) (text : List ℕ) (at : ℕ) (done : List ℕ) : Type 0 where
  piece : List ℕ
  bytes : List ℕ
  pairs : Pairs piece bytes
  size : length bytes ≡ n
  read : (digest_from n text at done).digest ≡ done ++ bytes
  part : Part text at piece (digest_from n text at done).stop.at

-- a byte of two digits, and those after it
more_stand : (n : ℕ) (text : List ℕ) (at : ℕ) (done : List ℕ) → digit_at text at < 16 → digit_at text (at + 1) < 16
    → PairsStand n text (at + 2) (done ++ (pair_at text at ∷ [])) → PairsStand (suc n) text at done
unfolding digit_at pair_at
more_stand n text at done ha hb p =
    let a : ℕ = get_or text at 0 in
    let b : ℕ = get_or text (at + 1) 0 in
    let same : digest_from (suc n) text at done ≡ digest_from n text (at + 2) (done ++ (pair_at text at ∷ [])) = pair_both n text at done ha hb in
    let on : suc (at + 1) ≡ at + 2 = omega arith in
    let two : drop at text ≡ a ∷ b ∷ drop (at + 2) text =
    drop-cons text at 0 (digit_before text at ha)
    ∙ ap (λ (k : ℕ). a ∷ drop k text) (sym (add-one at))
    ∙ ap (λ (l : List ℕ). a ∷ l) (drop-cons text (at + 1) 0 (digit_before text (at + 1) hb))
    ∙ ap (λ (k : ℕ). a ∷ b ∷ drop k text) on in
    record {
      piece = a ∷ b ∷ p.piece;
      bytes = pair_at text at ∷ p.bytes;
      pairs = pair (digit_of a) (digit_of b) (value_digit a ha) (value_digit b hb) p.pairs;
      size = ap suc p.size;
      read = rw same (p.read ∙ append_assoc done (pair_at text at ∷ []) p.bytes);
      part = rw same (record { cut = two ∙ ap (λ (l : List ℕ). a ∷ b ∷ l) p.part.cut; ends = let e = p.part.ends in omega arith });
    }

pairs_stand : (n : ℕ) (text : List ℕ) (at : ℕ) (done : List ℕ) → is_good (digest_from n text at done).stop ≡ true → PairsStand n text at done
unfolding digest_from
pairs_stand zero text at done h =
    record { piece = []; bytes = []; pairs = no_pair; size = refl; read = sym (append-nil done); part = record { cut = refl; ends = sym (add-zero at) } }
pairs_stand (suc n) text at done h =
    let none : (place : ℕ) → digest_from (suc n) text at done ≡ digest_fault (fault digit place) → PairsStand (suc n) text at done =
    λ place e. absurd (true≢false (sym (ap (λ (d : DigestField). is_good d.stop) (sym e) ∙ h))) in
    ⊎_elim
    (λ ha.
    ⊎_elim
    (λ hb.
    more_stand n text at done ha hb
    (pairs_stand n text (at + 2) (done ++ (pair_at text at ∷ [])) (ap (λ (d : DigestField). is_good d.stop) (sym (pair_both n text at done ha hb)) ∙ h)))
    (λ hb. none (at + 1) (pair_one n text at done ha hb))
    (below_or_not (digit_at text (at + 1)) 16))
    (λ ha. none at (pair_none n text at done ha))
    (below_or_not (digit_at text at) 16)

pub record DigestStands (text : List ℕ) (at : ℕ) : Type 0 where
  pub piece : List ℕ
  pub is_digest : IsDigest piece (digest_at text at).digest
  pub part : Part text at piece (digest_at text at).stop.at

pub digest_stands : (text : List ℕ) (at : ℕ) → is_good (digest_at text at).stop ≡ true → DigestStands text at
unfolding IsDigest digest_at
digest_stands text at h =
    let p = pairs_stand 32 text at [] h in
    record {
      piece = p.piece;
      is_digest = (rw p.read p.pairs, omega (arith, two_a_byte p.piece p.bytes p.pairs, p.size));
      part = p.part;
    }

-- a digest's bytes, each of two digits
two_digits_at : (text bytes : List ℕ) → Pairs text bytes → (i : ℕ) → i < length bytes → TwoDigits text bytes i
two_digits_at text bytes no_pair i below = absurd (omega arith)
two_digits_at text bytes (pair high low dh dl more) zero below = (high, low, dh, dl, refl)
two_digits_at text bytes (pair {text = t} {bytes = bs} high low dh dl more) (suc i) below =
    let second : 2 * suc i + 1 ≡ suc (suc (2 * i + 1)) = omega arith in
    let first : 2 * suc i ≡ suc (suc (2 * i)) = omega arith in
    rw (second, first) (two_digits_at t bs more i (omega arith))

pairs_of : (text bytes : List ℕ) → length text ≡ 2 * length bytes → ((i : ℕ) → i < length bytes → TwoDigits text bytes i) → Pairs text bytes
pairs_of [] [] size each = no_pair
pairs_of (a ∷ text) [] size each = absurd (omega arith)
pairs_of [] (byte ∷ bytes) size each = absurd (omega arith)
pairs_of (a ∷ []) (byte ∷ bytes) size each = absurd (omega arith)
pairs_of (a ∷ b ∷ text) (byte ∷ bytes) size each =
    let (high, low, dh, dl, e) = each 0 (omega arith) in
    let more = pairs_of text bytes (omega arith) (λ i below.
    let second : 2 * suc i + 1 ≡ suc (suc (2 * i + 1)) = omega arith in
    let first : 2 * suc i ≡ suc (suc (2 * i)) = omega arith in
    rw (second, first) at (each (suc i) (omega arith))) in
    subst (λ (x : ℕ). Pairs (a ∷ b ∷ text) (x ∷ bytes)) (sym e) (pair high low dh dl more)

pub digest_is : (text bytes : List ℕ)
    → IsDigest text bytes ↔ ((length text ≡ 64) × (length bytes ≡ 32) × ((i : ℕ) → i < 32 → TwoDigits text bytes i))
unfolding IsDigest
digest_is text bytes = (
  λ d.
      let size : length bytes ≡ 32 = omega (arith, two_a_byte text bytes d.0, d.1) in
      (d.1, size, λ i below. two_digits_at text bytes d.0 i (rw size below)),
  λ (long, size, each). (pairs_of text bytes (omega arith) (λ i below. each i (rw size at below)), long),
)
