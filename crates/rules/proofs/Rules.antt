-- Each rule, and its test. Assumes nothing.
use Prim.Native.Nat.{ℕ, ◌-◌, ◌/◌, ◌%◌, ◌≤◌, ◌<◌}
use mathlib.Core.Path.{◌≡◌, sym, ap, ◌∙◌}
use Rattle.std.specs.Prelude.{Some}
use mathlib.Core.Logic.{◌↔◌}
use mathlib.Core.Bool.{Bool, true, ◌&&◌}
use native.Mathlib.Omega.{arith}
use borrow.Author.Tests.{leb-true, ltb-true, eqb-true, le-leb, lt-ltb, eq-eqb}
use lib.Dec.{leb, eqb}
use Rattle.truth.proofs.Tests.{first, second, both}
use Rattle.units.specs.Units.{frames_of}
use Rattle.units.specs.declared.Frames.{Frames}
use Rattle.units.proofs.Exact.{frames_are}
use Rattle.rules.specs.Rules.{count_rule, is_note, note_rule, length_rule, loop_rule, obeys}
use Rattle.rules.specs.Promises.{Obeyed, PlaysOf}
use Rattle.rules.specs.declared.Record.{Record}

-- the frames of the even part of a length: half of it
pub whole_frames : (b : ℕ) (f : Frames) → frames_of (record { 0 = b - b % 2 }) ≡ Some f → f.0 ≡ b / 2
whole_frames b f h =
    let half : (b - b % 2) / 2 ≡ b / 2 = omega arith in
    let there = sym (frames_are (record { 0 = b - b % 2 }) (omega arith)) ∙ h in
    let same : record { 0 = (b - b % 2) / 2 } ≡ f = cc in
    sym (ap (λ n. n.0) same) ∙ half

-- two tests together
both_is : {P Q : Type 0} (p q : Bool) → (p ≡ true) ↔ P → (q ≡ true) ↔ Q → (p && q ≡ true) ↔ (P × Q)
both_is p q f g = (λ h. (f.0 (first p q h), g.0 (second p q h)), λ h. both p q (f.1 h.0) (g.1 h.1))

three_are : {A P Q R : Type 0} → A ↔ ((P × Q) × R) → A ↔ (P × Q × R)
three_are f = (λ a. ((f.0 a).0.0, (f.0 a).0.1, (f.0 a).1), λ h. f.1 ((h.0, h.1), h.2))

within_is : (low high n : ℕ) → (leb low n && leb n high ≡ true) ↔ ((low ≤ n) × (n ≤ high))
within_is low high n = both_is _ _ (leb-true low n, le-leb low n) (leb-true n high, le-leb n high)

pub count_rule_is : (count : ℕ) → (count_rule count ≡ true) ↔ ((1 ≤ count) × (count ≤ 32))
unfolding count_rule
count_rule_is = within_is 1 32

pub is_note_is : (note : ℕ) → (is_note note ≡ true) ↔ ((1 ≤ note) × (note ≤ 32))
unfolding is_note
is_note_is = within_is 1 32

pub note_rule_is : (last note : ℕ) → (note_rule last note ≡ true) ↔ ((1 ≤ note) × (note ≤ 32) × (last < note))
unfolding note_rule
note_rule_is last note = three_are (both_is _ _ (is_note_is note) (ltb-true last note, lt-ltb last note))

pub length_rule_is : (bytes : ℕ) → (length_rule bytes ≡ true) ↔ ((bytes % 2 ≡ 0) × (2 ≤ bytes) × (bytes ≤ 4294967294))
unfolding length_rule
length_rule_is bytes =
    three_are (both_is (eqb (bytes % 2) 0 && leb 2 bytes) (leb bytes 4294967294) (both_is _ _ (eqb-true _ 0, eq-eqb _ 0) (leb-true 2 bytes, le-leb 2 bytes)) (leb-true bytes _, le-leb bytes _))

pub loop_rule_is : (bytes start end : ℕ) → (loop_rule bytes start end ≡ true) ↔ ((start ≤ end) × (end < bytes / 2))
unfolding loop_rule
loop_rule_is bytes start end = both_is _ _ (leb-true start end, le-leb start end) (ltb-true end _, lt-ltb end _)

-- a loop's last frame lies inside the sample exactly when all of its frames do
pub loop_plays_inside : PlaysOf loop_rule
loop_plays_inside bytes start end =
    let rule = loop_rule_is bytes start end in (
      λ h.
          let (forward, within) = rule.0 h in
          record { some = forward; inside = λ frame from to. record { first = omega arith; second = omega arith } },
      λ p. let last = (p.inside end p.some (omega arith)).second in rule.1 (p.some, omega arith),
    )

pub obeys_is : (r : Record) → (obeys r ≡ true) ↔ Obeyed r
unfolding obeys
obeys_is r =
    let rules = both_is _ _ (length_rule_is r.length) (loop_rule_is r.length r.loop_start r.loop_end) in (
      λ h. let (size, loop) = rules.0 h in record { even = size.0; at_least = size.1; at_most = size.2; forward = loop.0; within = loop.1 },
      λ o. rules.1 ((o.even, o.at_least, o.at_most), (o.forward, o.within)),
    )
