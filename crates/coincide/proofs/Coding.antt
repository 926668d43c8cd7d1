-- What taking a piece into a code state answers and leaves, and reading a keyed sheet: each part by itself. Assumes nothing.
use Prim.Native.Nat.{ℕ}
use mathlib.Core.Path.{◌≡◌, ap}
use mathlib.Core.Logic.{◌↔◌}
use mathlib.Core.List.{List}
use Rattle.mac.specs.Codes.{update}
use Rattle.mac.specs.Promises.{UpdateRow}
use Rattle.mac.specs.declared.Code.{Code}
use Rattle.mac.specs.declared.CodeUpdated.{CodeUpdated}
use Rattle.mac.proofs.Proved.{proved as codes}
use Rattle.sheet.specs.declared.Sheet.{Sheet}
use Rattle.keyed.specs.Keyed.{keyed_of}
use Rattle.keyed_promises.specs.Answers.{Answered}
use Rattle.keyed_promises.proofs.Proved.{proved as keyed}

-- a number and a state
pub taken : (c : Code) (piece : List ℕ) (number : ℕ) (state : Code)
    → ((number ≡ (update c piece).number) × (state ≡ (update c piece).state)) ↔ UpdateRow c piece (record { number = number; state = state })
taken c piece number state =
    let rows = codes.tables.updates c piece (record { number = number; state = state }) in (
      λ p. rows.0 (λ i. record { number = p.0 i; state = p.1 i }),
      λ row. (ap (λ (u : CodeUpdated). u.number) (rows.1 row), ap (λ (u : CodeUpdated). u.state) (rows.1 row)),
    )

-- a verdict and a session, in one answer
pub keyed_whole : (key text : List ℕ) (r : Sheet) → (r ≡ keyed_of key text) ↔ Answered key text r.verdict r.session
keyed_whole key text r =
    let rows = keyed.answers key text r.verdict r.session in (
      λ e. rows.0 (ap (λ (x : Sheet). x.verdict) e, ap (λ (x : Sheet). x.session) e),
      λ row. let (v, s) = rows.1 row in λ i. record { verdict = v i; session = s i },
    )
