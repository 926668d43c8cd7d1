-- An answer to a test is that test exactly when it tells what the test tells. Assumes nothing.
use mathlib.Core.Path.{◌≡◌, sym, ◌∙◌}
use mathlib.Core.Logic.{◌↔◌}
use mathlib.Core.Bool.{Bool, true}
use Rattle.truth.proofs.Tests.{agree}

pub tells : {P : Type 0} (test r : Bool) → (test ≡ true) ↔ P → (r ≡ test) ↔ ((r ≡ true) ↔ P)
tells test r f = (λ e. (λ h. f.0 (sym e ∙ h), λ p. e ∙ f.1 p), λ g. agree r test (λ h. f.1 (g.0 h)) (λ h. g.1 (f.0 h)))
