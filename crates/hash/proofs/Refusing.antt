-- The table's rows: a number is given exactly when its row says. Assumes nothing.
use mathlib.Core.Path.{◌≡◌, refl, sym, ap, ◌∙◌}
use mathlib.Core.Logic.{◌↔◌, ◌⊎◌, inl, inr, ⊎_elim}
use Prim.Native.Nat.{ℕ, ◌+◌, ◌≤◌, ◌<◌}
use native.Mathlib.Omega.{arith}
use mathlib.Core.Bool.{Bool, true, false}
use mathlib.Core.List.{List}
use lib.Dec.{leb, eqb}
use lib.ListN.{length}
use borrow.Author.Tests.{leb-true, leb-false, eqb-true, eqb-false, ne_eqb}
use Rattle.refusal.specs.Table.{accepted, state_not_in_order, too_long, wrong_size}
use Rattle.truth.proofs.Tests.{not_both}
use Rattle.buffers.proofs.Comparing.{same_equal, equal_same}
use Rattle.standard.proofs.Folding.{length_hashValue}
use Rattle.units.specs.Units.{longest}
use Rattle.hash.specs.Sm3.{sm3}
use Rattle.hash.specs.State.{in_order}
use Rattle.hash.specs.Digests.{no_digest, compared, compare_message, compare_state}
use Rattle.hash.specs.Promises.{UpdateRefusals, FinishRefusals, DigestRefusals, MessageCompared, StateCompared}
use Rattle.hash.specs.declared.Compared.{Compared}
use Rattle.hash.proofs.Updating.{update_spoilt, update_takes, update_passes}
use Rattle.hash.proofs.Cutting.{finish_spoilt, finish_folds, digest_passes, digest_sm3}

-- two facts of which each holds where the other does
hold : {P Q : Type 0} → P → Q → P ↔ Q
hold p q = (λ _. q, λ _. p)

fail : {P Q : Type 0} → (P → ⊥) → (Q → ⊥) → P ↔ Q
fail f g = (λ p. absurd (f p), λ q. absurd (g q))

tested : (b : Bool) → (b ≡ true) ⊎ (b ≡ false)
tested true = inl refl
tested false = inr refl

pub fits_or_passes : (n : ℕ) → (n ≤ longest) ⊎ (longest < n)
fits_or_passes n = ⊎_elim (λ e. inl (leb-true n longest e)) (λ e. inr (leb-false n longest e)) (tested (leb n longest))

pub update_refusals : UpdateRefusals
update_refusals h x =
    ⊎_elim
    (λ (o : in_order h ≡ true).
    ⊎_elim
    (λ (fits : h.total + length x ≤ longest).
    rw (update_takes h x o fits)
    (fail (λ n. omega arith) (λ f. not_both _ f o), fail (λ n. omega arith) (λ q. omega arith), hold refl (o, fits), λ f. absurd (f refl)))
    (λ (past : longest < h.total + length x).
    rw (update_passes h x o past)
    (fail (λ n. omega arith) (λ f. not_both _ f o), hold refl (o, past), fail (λ n. omega arith) (λ q. omega arith), λ f. refl))
    (fits_or_passes (h.total + length x)))
    (λ (f : in_order h ≡ false).
    rw (update_spoilt h x f)
    (hold refl f, fail (λ n. omega arith) (λ q. not_both _ f q.0), fail (λ n. omega arith) (λ q. not_both _ f q.0), λ _. refl))
    (tested (in_order h))

pub length_sm3 : (m : List ℕ) → length (sm3 m) ≡ 32
unfolding sm3
length_sm3 m = length_hashValue _

pub finish_refusals : FinishRefusals
unfolding no_digest
finish_refusals h =
    ⊎_elim
    (λ (o : in_order h ≡ true).
    rw (finish_folds h o) (fail (λ n. omega arith) (λ f. not_both _ f o), hold refl o, λ f. absurd (f refl), length_hashValue _))
    (λ (f : in_order h ≡ false).
    rw (finish_spoilt h f) (hold refl f, fail (λ n. omega arith) (λ o. not_both _ f o), λ _. refl, refl))
    (tested (in_order h))

pub digest_refusals : DigestRefusals
unfolding no_digest
digest_refusals m =
    ⊎_elim
    (λ (fits : length m ≤ longest).
    rw (digest_sm3 m fits) (fail (λ n. omega arith) (λ q. omega arith), hold refl fits, λ f. absurd (f refl), length_sm3 m))
    (λ (past : longest < length m).
    rw (digest_passes m past) (hold refl past, fail (λ n. omega arith) (λ q. omega arith), λ _. refl, refl))
    (fits_or_passes (length m))

-- a comparison's rows, for any digest: `bad` is what it is refused for, with number n, and `good` what it is accepted for
abbrev Rows : Compared → ℕ → List ℕ → Type 0 → Type 0 → Type 0 → Type 0
Rows c n x bad good equal =
    ((c.number ≡ n) ↔ bad)
    × ((c.number ≡ wrong_size) ↔ (good × (length x ≡ 32 → ⊥)))
    × ((c.number ≡ accepted) ↔ (good × (length x ≡ 32)))
    × ((c.same ≡ true) ↔ (good × equal))

refused_rows : (n : ℕ) (x : List ℕ) {bad good equal : Type 0} → accepted < n → n < wrong_size → bad → (good → ⊥)
    → Rows (compared (no_digest n) x) n x bad good equal
unfolding compared no_digest
refused_rows n x p q b g =
    rw (ne_eqb n accepted (λ e. omega arith))
    (hold refl b, fail (λ e. omega arith) (λ k. g k.0), fail (λ e. omega arith) (λ k. g k.0), fail (λ e. not_both _ refl e) (λ k. g k.0))

accepted_rows : (n : ℕ) (b x : List ℕ) {bad good : Type 0} → accepted < n → n < wrong_size → length b ≡ 32 → (bad → ⊥) → good
    → Rows (compared (record { number = accepted; bytes = b }) x) n x bad good (x ≡ b)
unfolding compared
accepted_rows n b x p q l f g =
    ⊎_elim
    (λ (e : eqb (length x) 32 ≡ true).
    let w : length x ≡ 32 = eqb-true (length x) 32 e in
    rw e (
      fail (λ k. omega arith) f,
      fail (λ k. omega arith) (λ k. k.1 w),
      hold refl (g, w),
      (λ k. (g, sym (same_equal b x k)), λ k. equal_same b x (sym k.1)),
    ))
    (λ (e : eqb (length x) 32 ≡ false).
    let w : length x ≡ 32 → ⊥ = eqb-false (length x) 32 e in
    rw e (
      fail (λ k. omega arith) f,
      hold refl (g, w),
      fail (λ k. omega arith) (λ k. w k.1),
      fail (λ k. not_both _ refl k) (λ k. w (ap length k.1 ∙ l)),
    ))
    (tested (eqb (length x) 32))

pub message_compared : MessageCompared
unfolding compare_message
message_compared m x =
    ⊎_elim
    (λ (fits : length m ≤ longest).
    rw (digest_sm3 m fits) (accepted_rows too_long (sm3 m) x (omega arith) (omega arith) (length_sm3 m) (λ k. omega arith) fits))
    (λ (past : longest < length m).
    rw (digest_passes m past) (refused_rows too_long x (omega arith) (omega arith) past (λ k. omega arith)))
    (fits_or_passes (length m))

pub state_compared : StateCompared
unfolding compare_state
state_compared h x =
    ⊎_elim
    (λ (o : in_order h ≡ true).
    rw (finish_folds h o) (accepted_rows state_not_in_order _ x (omega arith) (omega arith) (length_hashValue _) (λ k. not_both _ k o) o))
    (λ (f : in_order h ≡ false).
    rw (finish_spoilt h f) (refused_rows state_not_in_order x (omega arith) (omega arith) f (λ k. not_both _ f k)))
    (tested (in_order h))
