-- The report of a session that lists a sheet's notes is their lines, in the sheet's order. Assumes nothing.
use Prim.Native.Nat.{ℕ, zero, suc, ◌+◌, ◌≤◌, ◌<◌}
use mathlib.Core.Path.{◌≡◌, refl, sym, ap, ◌∙◌}
use mathlib.Core.List.{List, [], ◌∷◌, ◌++◌, append_assoc, append-nil}
use mathlib.Core.Logic.{⊎_elim}
use native.Mathlib.Nat.{add-zero}
use native.Mathlib.Omega.{arith}
use lib.ListN.{length}
use Rattle.truth.proofs.Tests.{below_or_not}
use Rattle.rules.proofs.Rules.{note_rule_is}
use Rattle.lines.specs.declared.Entry.{Entry}
use Rattle.session.specs.Operations.{ask}
use Rattle.session.specs.declared.Session.{Session}
use Rattle.sheet_promises.specs.Grammar.{AllObey, no_entry_lem, entry}
use Rattle.sheet_promises.specs.Promises.{Among, first, further}
use Rattle.report.specs.Report.{line_of, lines_to, report}
use Rattle.program_promises.specs.Promises.{lines_of}

module _ (s : Session) where
  abbrev line : ℕ → List ℕ
  line note = line_of note (ask s note)

  -- the lines of so many notes after one
  between : (last count : ℕ) → List ℕ
  between last zero = []
  between last (suc count) = line (suc last) ++ between (suc last) count

  lines_between : (last count : ℕ) → lines_to s (last + count) ≡ lines_to s last ++ between last count
  unfolding lines_to between
  lines_between last zero = rw add-zero (sym (append-nil (lines_to s last)))
  lines_between last (suc count) =
      let place : last + suc count ≡ suc last + count = omega arith in
      ap (lines_to s) place ∙ lines_between (suc last) count ∙ append_assoc (lines_to s last) (line (suc last)) (between (suc last) count)

  -- no note that is not the sheet's has a line
  abbrev Quiet : (last : ℕ) → List Entry → Type 0
  Quiet last es = (note : ℕ) → last < note → note ≤ 32 → ((e : Entry) → Among e es → e.note ≡ note → ⊥) → line note ≡ []

later : (last : ℕ) (es : List Entry) (e : Entry) → AllObey last es → Among e es → last < e.note
later last [] e _ among = elim among [ ]
later last (d ∷ es) e (entry o rest) first = ((note_rule_is last e.note).0 o.note_rule_lem).2
later last (d ∷ es) e (entry o rest) (further among) =
    let here = ((note_rule_is last d.note).0 o.note_rule_lem).2 in
    let there = later d.note es e rest among in
    omega arith

-- an entry is among some
some : (e : Entry) (es : List Entry) → Among e es → 1 ≤ length es
some e [] among = elim among [ ]
some e (d ∷ es) first = omega arith
some e (d ∷ es) (further among) = omega arith

-- a note that is neither the first entry's nor a further one's
neither : (e : Entry) (es : List Entry) (note : ℕ) → (e.note ≡ note → ⊥) → ((d : Entry) → Among d es → d.note ≡ note → ⊥)
    → (d : Entry) → Among d (e ∷ es) → d.note ≡ note → ⊥
neither e es note here other d first is = here is
neither e es note here other d (further among) is = other d among is

-- one note more that is passed: the entries obey after it too
obeys_later : (last : ℕ) (e : Entry) (es : List Entry) → AllObey last (e ∷ es) → suc last < e.note → AllObey (suc last) (e ∷ es)
obeys_later last e es (entry o rest) more =
    let was = (note_rule_is last e.note).0 o.note_rule_lem in
    entry
    (record { note_rule_lem = (note_rule_is (suc last) e.note).1 (was.0, was.1, more); length_rule_lem = o.length_rule_lem; loop_rule_lem = o.loop_rule_lem }) rest

module _ (s : Session) where
  in_order : (count last : ℕ) (es : List Entry) → last + count ≡ 32 → AllObey last es → Quiet s last es → between s last count ≡ lines_of s es
  unfolding lines_of between
  in_order zero last [] end obey quiet = refl
  in_order zero last (e ∷ es) end (entry o rest) quiet = let was = (note_rule_is last e.note).0 o.note_rule_lem in absurd (omega arith)
  in_order (suc count) last [] end obey quiet =
      rw (quiet (suc last) (omega arith) (omega arith) (λ e among. absurd (let n = some e [] among in omega arith)))
      (in_order count (suc last) [] (omega arith) no_entry_lem (λ note more small other. quiet note (omega arith) small other))
  in_order (suc count) last (e ∷ es) end (entry o rest) quiet =
      let was = (note_rule_is last e.note).0 o.note_rule_lem in
      ⊎_elim
      (λ more.
      rw (quiet (suc last) (omega arith) (omega arith) (λ d among at. absurd (let n = past more d among in omega arith)))
      (in_order count (suc last) (e ∷ es) (omega arith) (obeys_later last e es (entry o rest) more)
      (λ note above small other. quiet note (omega arith) small other)))
      (λ least.
      let at : e.note ≡ suc last = omega arith in
      rw at
      (ap (λ (l : List ℕ). line s (suc last) ++ l)
      (in_order count (suc last) es (omega arith) (rw at at rest)
      (λ note above small other. quiet note (omega arith) small (neither e es note (omega arith) other)))))
      (below_or_not (suc last) e.note)
    where
      past : suc last < e.note → (d : Entry) → Among d (e ∷ es) → suc last < d.note
      past more d among = later (suc last) (e ∷ es) d (obeys_later last e es (entry o rest) more) among

pub report_in_order : (s : Session) (es : List Entry) → AllObey 0 es
    → ((note : ℕ) → ((e : Entry) → Among e es → e.note ≡ note → ⊥) → line_of note (ask s note) ≡ [])
    → report s ≡ lines_of s es
unfolding report lines_to
report_in_order s es obey quiet = lines_between s 0 32 ∙ in_order s 32 0 es refl obey (λ note more small other. quiet note other)
