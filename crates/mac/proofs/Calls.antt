-- The one call, as the code decides it. Assumes nothing.
use mathlib.Core.Path.{◌≡◌, refl, sym, ap, ◌∙◌}
use mathlib.Core.Logic.{inl, inr}
use Prim.Native.Nat.{ℕ, ◌+◌, ◌≤◌, ◌<◌}
use native.Mathlib.Omega.{arith}
use mathlib.Core.List.{List, ◌++◌}
use lib.ListN.{length, replicate, length-append}
use borrow.Author.Tests.{lt-ltb, le-ltb}
use Rattle.truth.proofs.Tests.{below_or_not}
use Rattle.std.specs.Prelude.{Ok, Err}
use Rattle.refusal.specs.Table.{accepted, too_long}
use Rattle.refusal.specs.declared.Refusal.{Refusal}
use Rattle.refusal.proofs.Telling.{not_accepted}
use Rattle.units.specs.Units.{longest}
use Rattle.hash.specs.Sm3.{sm3}
use Rattle.hash.specs.Digests.{no_digest, digest}
use Rattle.hash.specs.Told.{told_digest}
use Rattle.hash.specs.declared.Digest.{Digest}
use Rattle.hash.proofs.Cutting.{digest_passes, digest_sm3}
use Rattle.hash.proofs.Refusing.{length_sm3}
use Rattle.mac.specs.Hmac.{◌⊕◌, ipad, opad, hmac}
use Rattle.mac.specs.Codes.{block_of, code_of}
use Rattle.mac.proofs.Blocks.{blocked, not_blocked}
use Rattle.mac.proofs.States.{inside, outside, length_inside, length_outside}

module _ (key m : List ℕ) where
  pub key_passes : longest < length key → code_of key m ≡ no_digest too_long
  unfolding code_of
  key_passes past = rw (lt-ltb longest (length key) past)

  pub message_passes : length key ≤ longest → longest < 64 + length m → code_of key m ≡ no_digest too_long
  unfolding code_of
  message_passes fits past = rw (le-ltb longest (length key) fits, lt-ltb longest (64 + length m) past)

  pub code_is : length key ≤ longest → 64 + length m ≤ longest → code_of key m ≡ record { number = accepted; bytes = hmac key m }
  unfolding code_of
  code_is fits short = rw (le-ltb longest (length key) fits, le-ltb longest (64 + length m) short)

  -- the inner digest, and the code by it
  module _ (fits : length key ≤ longest) (inner : Digest) (e : inner ≡ digest (inside key ++ m)) where
    size : length (inside key ++ m) ≡ 64 + length m
    size = length-append (inside key) m ∙ ap (λ (n : ℕ). n + length m) (length_inside key)

    pub message_refused : (inner.number ≡ accepted → ⊥) → no_digest inner.number ≡ code_of key m
    unfolding no_digest
    message_refused f =
        elim (below_or_not longest (64 + length m)) [
          | inl past ↦ rw (e, digest_passes (inside key ++ m) (rw size past), message_passes fits past)
          | inr short ↦ absurd (f (rw (e, digest_sm3 (inside key ++ m) (rw size short))))
        ]

    pub outer_codes : inner.number ≡ accepted → digest (outside key ++ inner.bytes) ≡ code_of key m
    unfolding no_digest hmac
    outer_codes a =
        elim (below_or_not longest (64 + length m)) [
          | inl past ↦
              let n : inner.number ≡ too_long = rw (e, digest_passes (inside key ++ m) (rw size past)) in
              absurd (omega arith)
          | inr short ↦
              let b : inner.bytes ≡ sm3 (inside key ++ m) = ap (λ (d : Digest). d.bytes) (e ∙ digest_sm3 (inside key ++ m) (rw size short)) in
              let l = length_sm3 (inside key ++ m) in
              rw b (digest_sm3 (outside key ++ sm3 (inside key ++ m)) (omega (arith, length-append (outside key) (sm3 (inside key ++ m)), length_outside key))
              ∙ sym (code_is fits short))
        ]

-- as the two calls answer
module _ (key m : List ℕ) where
  pub key_refused : (r : Refusal) → Err r ≡ block_of key → told_digest (Err r) ≡ code_of key m
  key_refused r e = let b = not_blocked key r e in rw b.1 (sym (key_passes key m b.0))

  module _ (block : List ℕ) (e : Ok block ≡ block_of key) where
    pub inside_refused : (r : Refusal) → told_digest (Err r) ≡ digest ((block ⊕ replicate 64 0x36) ++ m) → told_digest (Err r) ≡ code_of key m
    unfolding no_digest ipad
    inside_refused r f =
        let b = blocked key block e in
        message_refused key m b.fits (told_digest (Err r)) (f ∙ rw b.is) (not_accepted r)

    pub outside_codes : (d : List ℕ) → told_digest (Ok d) ≡ digest ((block ⊕ replicate 64 0x36) ++ m)
        → digest ((block ⊕ replicate 64 0x5c) ++ d) ≡ code_of key m
    unfolding ipad opad
    outside_codes d f =
        let b = blocked key block e in
        rw b.is (outer_codes key m b.fits (told_digest (Ok d)) (f ∙ rw b.is) refl)
