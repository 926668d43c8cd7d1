-- What a C host is told of a call on a code state determines what the call answered. Assumes nothing.
use mathlib.Core.Path.{◌≡◌, refl, sym, ap, ◌∙◌}
use mathlib.Core.List.{[]}
use native.Mathlib.Omega.{arith}
use Rattle.std.specs.Prelude.{Result, Ok, Err}
use Rattle.refusal.specs.declared.Refusal.{Refusal}
use Rattle.refusal.proofs.Telling.{one_number, not_accepted}
use Rattle.mac.specs.Told.{code_updated_of}
use Rattle.mac.specs.Promises.{Telling}
use Rattle.mac.specs.Codes.{started, start}
use Rattle.mac.specs.declared.Code.{Code}
use Rattle.mac.proofs.States.{start_takes}

pub telling : (instead after : Code) (refusal : Refusal) → Telling instead after refusal
telling instead after refusal = record { updated = refl; not_updated = refl }

pub all_updated : (c : Code) (x y : Result Code Refusal) → code_updated_of c x ≡ code_updated_of c y → x ≡ y
all_updated c (Ok a) (Ok b) e = ap Ok (ap (λ u. u.state) e)
all_updated c (Ok a) (Err s) e = absurd (not_accepted s (sym (ap (λ u. u.number) e)))
all_updated c (Err r) (Ok b) e = absurd (not_accepted r (ap (λ u. u.number) e))
all_updated c (Err r) (Err s) e = ap Err (one_number r s (ap (λ u. u.number) e))

-- the empty key is started
pub empty_starts : {r : Result Code Refusal} → code_updated_of (started []) r ≡ start [] → r ≡ Ok (started [])
empty_starts {r = r} e = all_updated (started []) r (Ok (started [])) (e ∙ start_takes [] (omega arith))

pub started_empty : {r : Result Code Refusal} {s : Code} → code_updated_of (started []) r ≡ start [] → r ≡ Ok s → s ≡ started []
started_empty e f = let g = empty_starts e in cc
