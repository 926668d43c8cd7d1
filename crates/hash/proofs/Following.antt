-- Pieces that follow one another from the fresh state: what is held after each of them is what the joined message leaves. Assumes nothing.
use Prim.Native.Nat.{ℕ, ◌+◌, ◌≤◌, ◌<◌}
use mathlib.Core.Path.{◌≡◌, sym, ap, ◌∙◌}
use mathlib.Core.Logic.{⊎_elim}
use mathlib.Core.Bool.{true}
use mathlib.Core.List.{List, [], ◌++◌}
use native.Mathlib.Omega.{arith}
use native.Mathlib.Nat.{zero-add}
use lib.ListN.{length, length-append}
use Rattle.std.specs.Prelude.{Err}
use Rattle.refusal.specs.Table.{accepted, too_long, number_by}
use Rattle.refusal.specs.declared.Refusal.{Refusal}
use Rattle.refusal.proofs.Telling.{not_accepted}
use Rattle.units.specs.Units.{longest}
use Rattle.hash.specs.State.{fresh, in_order}
use Rattle.hash.specs.Update.{after_piece, update}
use Rattle.hash.specs.Digests.{finish, digest}
use Rattle.hash.specs.Told.{told_digest}
use Rattle.hash.specs.declared.Hash.{Hash}
use Rattle.hash.specs.declared.Updated.{Updated}
use Rattle.hash.specs.declared.Digest.{Digest}
use Rattle.hash.proofs.State.{inOrder_fresh}
use Rattle.hash.proofs.Taking.{inOrder_afterPiece, afterPiece_nil, afterPiece_join}
use Rattle.hash.proofs.Updating.{update_passes, update_takes}
use Rattle.hash.proofs.Cutting.{finish_fresh, digest_passes, digest_sm3}
use Rattle.hash.proofs.Refusing.{fits_or_passes}

-- a state that has taken a message, from the fresh one on
pub record Held (h : Hash) (m : List ℕ) : Type 0 where
  pub fits : length m ≤ longest
  pub is : h ≡ after_piece fresh m

pub held_none : {h : Hash} → h ≡ fresh → Held h []
held_none e = record { fits = omega arith; is = e ∙ sym (afterPiece_nil fresh inOrder_fresh) }

module _ {h : Hash} {m : List ℕ} (k : Held h m) where
  order : in_order h ≡ true
  unfolding fresh
  order = rw k.is (inOrder_afterPiece fresh inOrder_fresh m (omega (arith, k.fits)))

  total : h.total ≡ length m
  unfolding after_piece fresh
  total = rw k.is (zero-add (length m))

  -- the digest is then the message's
  pub held_ends : {d : Digest} → d ≡ finish h → d ≡ digest m
  held_ends e = e ∙ rw k.is (finish_fresh m k.fits ∙ sym (digest_sm3 m k.fits))

  module _ (x : List ℕ) where
    -- a piece more
    takes : length m + length x ≤ longest → update h x ≡ record { number = accepted; state = after_piece fresh (m ++ x) }
    takes fits = update_takes h x order (rw total fits) ∙ rw (k.is, afterPiece_join fresh inOrder_fresh m x)

    passes : longest < length m + length x → update h x ≡ record { number = too_long; state = h }
    passes past = update_passes h x order (rw total past)

    pub held_more : {after : Hash} → record { number = accepted; state = after } ≡ update h x → Held after (m ++ x)
    held_more {after = after} e =
        ⊎_elim
        (λ (fits : length m + length x ≤ longest).
        record { fits = omega (arith, length-append m x); is = ap (λ (u : Updated). u.state) (e ∙ takes fits) })
        (λ (past : longest < length m + length x). absurd (let n : 0 ≡ 10 = ap (λ (u : Updated). u.number) (e ∙ passes past) in omega arith))
        (fits_or_passes (length m + length x))

    -- refused, a message with these bytes is too long
    pub held_refused : (r : Refusal) (whole : List ℕ) → length m + length x ≤ length whole
        → record { number = number_by r; state = h } ≡ update h x
        → told_digest (Err r) ≡ digest whole
    held_refused r whole within e =
        ⊎_elim
        (λ (fits : length m + length x ≤ longest). absurd (not_accepted r (ap (λ (u : Updated). u.number) (e ∙ takes fits))))
        (λ (past : longest < length m + length x).
        rw (ap (λ (u : Updated). u.number) (e ∙ passes past)) (sym (digest_passes whole (omega arith))))
        (fits_or_passes (length m + length x))
