-- What a C host is told of a call determines what the call answered. Assumes nothing.
use Prim.Native.Nat.{ℕ}
use mathlib.Core.Path.{◌≡◌, refl, sym, ap}
use mathlib.Core.Bool.{Bool}
use mathlib.Core.List.{List}
use Rattle.std.specs.Prelude.{Result, Ok, Err}
use Rattle.refusal.specs.declared.Refusal.{Refusal}
use Rattle.refusal.proofs.Telling.{one_number, not_accepted}
use Rattle.hash.specs.Digests.{no_digest}
use Rattle.hash.specs.Told.{updated_of, told_digest, compared_of}
use Rattle.hash.specs.Promises.{Telling}
use Rattle.hash.specs.declared.Hash.{Hash}

pub telling : (h : Hash) (bytes : List ℕ) (same : Bool) (refusal : Refusal) → Telling h bytes same refusal
unfolding no_digest
telling h bytes same refusal =
    record { updated = λ after. refl; not_updated = refl; digested = refl; not_digested = refl; compared = refl; not_compared = refl }

pub all_updated : (h : Hash) (x y : Result Hash Refusal) → updated_of h x ≡ updated_of h y → x ≡ y
all_updated h (Ok a) (Ok b) e = ap Ok (ap (λ u. u.state) e)
all_updated h (Ok a) (Err s) e = absurd (not_accepted s (sym (ap (λ u. u.number) e)))
all_updated h (Err r) (Ok b) e = absurd (not_accepted r (ap (λ u. u.number) e))
all_updated h (Err r) (Err s) e = ap Err (one_number r s (ap (λ u. u.number) e))

pub all_digested : (x y : Result (List ℕ) Refusal) → told_digest x ≡ told_digest y → x ≡ y
unfolding no_digest
all_digested (Ok a) (Ok b) e = ap Ok (ap (λ d. d.bytes) e)
all_digested (Ok a) (Err s) e = absurd (not_accepted s (sym (ap (λ d. d.number) e)))
all_digested (Err r) (Ok b) e = absurd (not_accepted r (ap (λ d. d.number) e))
all_digested (Err r) (Err s) e = ap Err (one_number r s (ap (λ d. d.number) e))

pub all_compared : (x y : Result Bool Refusal) → compared_of x ≡ compared_of y → x ≡ y
all_compared (Ok a) (Ok b) e = ap Ok (ap (λ c. c.same) e)
all_compared (Ok a) (Err s) e = absurd (not_accepted s (sym (ap (λ c. c.number) e)))
all_compared (Err r) (Ok b) e = absurd (not_accepted r (ap (λ c. c.number) e))
all_compared (Err r) (Err s) e = ap Err (one_number r s (ap (λ c. c.number) e))
