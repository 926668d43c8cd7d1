-- The numbers of a well-formed line are those of the rules that it breaks. Assumes nothing.
use Prim.Native.Nat.{ℕ}
use mathlib.Core.Path.{◌≡◌}
use mathlib.Core.Logic.{◌⊎◌, inl, inr, ⊎_elim}
use native.Mathlib.Omega.{arith}
use Rattle.refusal.specs.Table.{accepted}
use Rattle.rules.specs.Rules.{note_rule, good_length, good_loop}
use Rattle.sheet.specs.Judging.{entry_number}
use Rattle.lines.specs.declared.Entry.{Entry}
use Rattle.truth.proofs.Tests.{either}
use Rattle.sheet.proofs.Verdicts.{entry_note, entry_length, entry_loop, entry_good}
use Rattle.sheet_promises.specs.Grammar.{ObeysRules}
use Rattle.sheet_promises.specs.Faults.{Breaks, note, size, loop}

-- a line that obeys the rules is accepted
pub obeys_number : (last : ℕ) (e : Entry) → ObeysRules last e → entry_number last e ≡ accepted
obeys_number last e o = entry_good last e o.note_rule_lem o.length_rule_lem o.loop_rule_lem

-- one that breaks a rule has the rule's number
pub breaks_number : (last : ℕ) (e : Entry) (number : ℕ) → Breaks last e number → entry_number last e ≡ number
breaks_number last e number (note bad) = entry_note last e bad
breaks_number last e number (size good bad) = entry_length last e good bad
breaks_number last e number (loop good long bad) = entry_loop last e good long bad

pub breaks_refused : (last : ℕ) (e : Entry) (number : ℕ) → Breaks last e number → number ≡ accepted → ⊥
breaks_refused last e number (note bad) h = omega arith
breaks_refused last e number (size good bad) h = omega arith
breaks_refused last e number (loop good long bad) h = omega arith

-- and every line does one or the other
pub obeys_or_breaks : (last : ℕ) (e : Entry) → ObeysRules last e ⊎ Breaks last e (entry_number last e)
obeys_or_breaks last e =
    ⊎_elim
    (λ n.
    ⊎_elim
    (λ l.
    ⊎_elim
    (λ o. inl (record { note_rule_lem = n; length_rule_lem = l; loop_rule_lem = o }))
    (λ o. inr (rw (entry_loop last e n l o) (loop n l o)))
    (either (good_loop e.sample)))
    (λ l. inr (rw (entry_length last e n l) (size n l)))
    (either (good_length e.sample)))
    (λ n. inr (rw (entry_note last e n) (note n)))
    (either (note_rule last e.note))
