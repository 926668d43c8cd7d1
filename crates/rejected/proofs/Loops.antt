-- One rule for loops keeps every frame inside the sample and refuses no loop that does: 2/13's. Assumes nothing.
use Prim.Native.Nat.{ℕ, ◌+◌, ◌/◌, ◌<◌}
use mathlib.Core.Path.{◌≡◌}
use mathlib.Core.Bool.{Bool, true, ◌&&◌}
use native.Mathlib.Omega.{arith}
use lib.Dec.{leb, ltb}
use borrow.Author.Tests.{leb-true, ltb-true, le-leb, lt-ltb}
use Rattle.truth.proofs.Tests.{agree, first, second, both}
use Rattle.rules.specs.Rules.{loop_rule}
use Rattle.rules.specs.Promises.{FrameInside, PlaysOf}
use Rattle.rules.proofs.Proved.{proved as rules}
use Rattle.rejected.specs.Wrong.{old_loop_rule}

only_rule : (rule : (bytes start end : ℕ) → Bool) → PlaysOf rule → (bytes start end : ℕ) → rule bytes start end ≡ loop_rule bytes start end
only_rule rule plays bytes start end =
    let mine = plays bytes start end in
    let ours = rules.plays bytes start end in
    agree _ _ (λ h. ours.1 (mine.0 h)) (λ h. mine.1 (ours.0 h))

pub no_other : (rule : (bytes start end : ℕ) → Bool) (bytes start end : ℕ) → (rule bytes start end ≡ loop_rule bytes start end → ⊥) → PlaysOf rule → ⊥
no_other rule bytes start end differs plays = differs (only_rule rule plays bytes start end)

pub old_beyond : (bytes start : ℕ) → start < bytes / 2 → (old_loop_rule bytes start (bytes / 2) ≡ true) × (FrameInside (bytes / 2) bytes → ⊥)
unfolding old_loop_rule
old_beyond bytes start some =
    (both _ _ (lt-ltb start (bytes / 2) some) (le-leb (bytes / 2) (bytes / 2) (omega arith)), λ f. let inside = f.second in omega arith)

pub lowered_is : (bytes start last : ℕ) → loop_rule bytes start last ≡ old_loop_rule bytes start (last + 1)
unfolding old_loop_rule
lowered_is bytes start last =
    let rule = rules.loops bytes start last in
    agree _ (ltb start (last + 1) && leb (last + 1) (bytes / 2))
    (λ h. let (forward, within) = rule.0 h in both _ _ (lt-ltb start (last + 1) (omega arith)) (le-leb (last + 1) (bytes / 2) (omega arith)))
    (λ h.
    let rises = ltb-true start (last + 1) (first _ (leb (last + 1) (bytes / 2)) h) in
    let most = leb-true (last + 1) (bytes / 2) (second (ltb start (last + 1)) _ h) in
    rule.1 (omega arith, omega arith))
