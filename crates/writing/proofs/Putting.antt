-- Texts put in a line, one behind the other. Assumes nothing.
use Rattle.std.proofs.Common.{Bool, true, leb, ℕ, ◌≡◌, ◌+◌, ◌≤◌, ◌<◌, ◌/◌, ◌%◌, ◌∙◌, List, [], ◌∷◌, ◌++◌, length, get_or, take, ap, sym, refl, arith, length-append, add-one}
use Rattle.std.proofs.lemmas.List.{length-take}
use borrow.Author.Tests.{leb-true, leb-false}
use lib.ListN.{set, length-set}
use lib.Seq.{take-suc}
use Rattle.buffers.specs.Copy.{copied}
use Rattle.buffers.proofs.Copied.{copied_not}
use Rattle.buffers.proofs.Zeros.{copied_none}
use Rattle.hex_digits.specs.Digits.{letter_of}
use Rattle.writing.specs.Putting.{Put}
use Rattle.writing.specs.Texts.{digest_text}
use Rattle.writing.specs.declared.Line.{Line}
use Rattle.writing.proofs.Laying.{length_copied, one_laid, part_laid}
use Rattle.writing.proofs.Sizes.{digest_size}

-- one byte
pub byte_put : (d : List ℕ) (at x : ℕ) → at + 1 ≤ length d → set d at x ≡ copied d at (x ∷ [])
byte_put d at x room = sym (one_laid d [] at x (omega arith) ∙ copied_none (set d at x) (at + 1))

-- one text behind another
pub put_then : {a b c : Line} {s t : List ℕ} → Put a s b → Put b t c → Put a (s ++ t) c
put_then {a} {b} {c} {s} {t} p q =
    record {
      fits = omega (arith, p.next, p.same_length, q.fits, length-append s t);
      next = omega (arith, p.next, q.next, length-append s t);
      laid = q.laid ∙ rw (p.laid, p.next) (sym (part_laid a.buffer.now s t a.at (omega (arith, p.next, p.same_length, q.fits, length-append s t))));
      same_length = q.same_length ∙ p.same_length;
      same_buffer = q.same_buffer ∙ p.same_buffer;
    }

pub none_put : (a : Line) → a.at ≤ length a.buffer.now → Put a [] a
none_put a within = record { fits = omega arith; next = omega arith; laid = sym (copied_none a.buffer.now a.at); same_length = refl; same_buffer = refl }

-- a digest's next byte
digest_join : (s t : List ℕ) → digest_text (s ++ t) ≡ digest_text s ++ digest_text t
unfolding digest_text
digest_join [] t = refl
digest_join (byte ∷ s) t = ap (λ (l : List ℕ). letter_of (byte / 16) ∷ letter_of (byte % 16) ∷ l) (digest_join s t)

digest_more : (bytes : List ℕ) (i : ℕ) → i < length bytes
    → digest_text (take (i + 1) bytes) ≡ digest_text (take i bytes) ++ (letter_of (get_or bytes i 0 / 16) ∷ letter_of (get_or bytes i 0 % 16) ∷ [])
unfolding digest_text
digest_more bytes i more = rw (add-one i, take-suc bytes i 0 more) (digest_join (take i bytes) (get_or bytes i 0 ∷ []))

pub byte_more : {a b c d : Line} {high low : ℕ} (bytes : List ℕ) (i : ℕ) → Put a (digest_text (take i bytes)) b → Put b (high ∷ []) c → Put c (low ∷ []) d → i < length bytes
    → high ≡ letter_of (get_or bytes i 0 / 16) → low ≡ letter_of (get_or bytes i 0 % 16) → Put a (digest_text (take (i + 1) bytes)) d
byte_more bytes i p q r more is_high is_low = rw (digest_more bytes i more, ← is_high, ← is_low) (put_then p (put_then q r))

-- what tells where a text goes, and whether it fits
pub ruleset sizes = (length-append, length-set, length-take, length_copied, digest_size, byte_put, leb-true, leb-false, copied_not)
