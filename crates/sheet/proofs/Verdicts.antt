-- What is judged of a line, and of the lines in order. Assumes nothing.
use Rattle.lines.specs.declared.Field.{Field}
use Rattle.lines.specs.Fields.{field_of}
use Prim.Native.Nat.{ℕ, suc, ◌+◌, ◌-◌, ◌<◌, ◌≤◌}
use mathlib.Core.Path.{◌≡◌, refl, sym, ap, ◌∙◌}
use mathlib.Core.Logic.{⊎_elim}
use mathlib.Core.List.{List}
use mathlib.Core.Bool.{Bool, true, false}
use native.Mathlib.Omega.{arith}
use borrow.Author.Tests.{lt-ltb, le-ltb, eq-eqb, ne_eqb}
use lib.Dec.{eqb}
use lib.ListN.{length}
use Rattle.std.specs.Result.{is_ok}
use Rattle.sheet.specs.declared.Bad.{Bad}
use Rattle.sheet.specs.declared.Verdict.{Verdict}
use Rattle.std.specs.Prelude.{⊤, Result, Ok, Err}
use Rattle.truth.proofs.Tests.{either}
use Rattle.refusal.specs.declared.Refusal.{Refusal}
use Rattle.refusal.specs.declared.Refusal.TheVariants
use Rattle.refusal.proofs.Telling.{one_number, not_accepted}
use Rattle.refusal.specs.Table.{number_by, number_of, accepted, form, count_or_note, bad_length, bad_loop}
use Rattle.rules.proofs.Rules.{count_rule_is}
use Rattle.rules.specs.Rules.{count_rule, note_rule, good_length, good_loop}
use Rattle.lines.specs.Reading.{is_good}
use Rattle.lines.specs.declared.NoteLine.{NoteLine}
use Rattle.lines.specs.Lines.{line_of, note_line, header_line, edition1}
use Rattle.sheet.specs.Judging.{header_number, entry_number, note_number, header_judged, entry_judged, accepted_read, line_judged, all_good, verdict_at, verdict_of, judged_notes, judged}
use Rattle.lines.specs.declared.Entry.{Entry}
use Rattle.lines.specs.declared.Fault.{Fault}
use Rattle.lines.specs.declared.Read.{Read}
use Rattle.lines.proofs.Marks.{wants}

-- a test is true or false
by_cases : {P : Type 0} (b : Bool) → (b ≡ true → P) → (b ≡ false → P) → P
by_cases b holds fails = ⊎_elim holds fails (either b)

-- the number of a header
module _ (h : Field) where
  pub header_ill : is_good h.stop ≡ false → header_number h ≡ form
  unfolding header_number
  header_ill ill = simp ill

  module _ (well : is_good h.stop ≡ true) where
    pub header_bad : count_rule h.value ≡ false → header_number h ≡ count_or_note
    unfolding header_number
    header_bad bad = simp (well, bad)

    pub header_good : count_rule h.value ≡ true → header_number h ≡ accepted
    unfolding header_number
    header_good good = simp (well, good)

-- the number of an entry
module _ (last : ℕ) (e : Entry) where
  pub entry_note : note_rule last e.note ≡ false → entry_number last e ≡ count_or_note
  unfolding entry_number
  entry_note bad = simp bad

  module _ (note : note_rule last e.note ≡ true) where
    pub entry_length : good_length e.sample ≡ false → entry_number last e ≡ bad_length
    unfolding entry_number
    entry_length bad = simp (note, bad)

    module _ (bytes : good_length e.sample ≡ true) where
      pub entry_loop : good_loop e.sample ≡ false → entry_number last e ≡ bad_loop
      unfolding entry_number
      entry_loop bad = simp (note, bytes, bad)

      pub entry_good : good_loop e.sample ≡ true → entry_number last e ≡ accepted
      unfolding entry_number
      entry_good good = simp (note, bytes, good)

-- and of its line
pub line_ill : (last : ℕ) (l : NoteLine) → is_good l.stop ≡ false → note_number last l ≡ form
unfolding note_number
line_ill last l ill = simp ill

pub line_well : (last : ℕ) (l : NoteLine) → is_good l.stop ≡ true → note_number last l ≡ entry_number last l.entry
unfolding note_number
line_well last l well = simp well

-- an accepted header has a count of at most 32
pub most_notes : (h : Field) (number : ℕ) → number ≡ header_number h → number ≡ accepted → h.value ≤ 32
unfolding header_number
most_notes h number e good = go (is_good h.stop) (count_rule h.value) refl refl
  where
    go : (p q : Bool) → is_good h.stop ≡ p → count_rule h.value ≡ q → h.value ≤ 32
    go p true ep eq = ((count_rule_is h.value).0 eq).1
    go true false ep eq = let no : number ≡ 2 = e ∙ simp (ep, eq) in absurd (omega arith)
    go false false ep eq = let no : number ≡ 1 = e ∙ simp (ep, eq) in absurd (omega arith)

-- line 1 decides, or the note lines do
pub header_decides : (text : List ℕ) (from : ℕ) (h : Field) (number : ℕ) → h ≡ header_line text from edition1 → number ≡ header_number h → (number ≡ accepted → ⊥)
    → verdict_at number 1 ≡ judged text from
unfolding judged
header_decides text from h number eh en bad = rw (← eh, ← en) (simp (ne_eqb number accepted bad))

pub notes_decide : (text : List ℕ) (from : ℕ) (h : Field) (number : ℕ) → h ≡ header_line text from edition1 → number ≡ header_number h → number ≡ accepted
    → judged text from ≡ judged_notes h.value text h.stop.at 2 0
unfolding judged
notes_decide text from h number eh en good = rw (← eh, ← en) (simp (eq-eqb number accepted good))

-- a note line decides, or those after it do
module _ (text : List ℕ) (notes at line last : ℕ) (l : NoteLine) (el : l ≡ note_line text at) (number : ℕ) (en : number ≡ note_number last l) where
  pub this_decides : (number ≡ accepted → ⊥) → judged_notes (suc notes) text at line last ≡ verdict_at number line
  unfolding judged_notes
  this_decides bad = rw (← el, ← en) (simp (ne_eqb number accepted bad))

  pub rest_decides : number ≡ accepted → judged_notes (suc notes) text at line last ≡ judged_notes notes text l.stop.at (line + 1) l.entry.note
  unfolding judged_notes
  rest_decides good = rw (← el, ← en) (simp (eq-eqb number accepted good))

-- after the last note line
pub text_follows : (text : List ℕ) (at line last : ℕ) → at < length text → judged_notes 0 text at line last ≡ verdict_at form line
unfolding judged_notes
text_follows text at line last h = simp (lt-ltb at (length text) h)

pub nothing_follows : (text : List ℕ) (at line last : ℕ) → length text ≤ at → judged_notes 0 text at line last ≡ verdict_at accepted 0
unfolding judged_notes all_good verdict_at
nothing_follows text at line last h = simp (le-ltb at (length text) h)

-- as the code judges: what it answers of a line is told by the line's number
pub header_numbered : (h : Result (Read ℕ) Fault) → number_of (header_judged h) ≡ header_number (field_of h)
unfolding header_judged header_number
header_numbered (Ok h) = by_cases (count_rule h.value) (λ good. simp good) (λ bad. simp bad)
header_numbered (Err fault) = simp (wants fault.wanted)

pub entry_numbered : (last : ℕ) (e : Entry) → number_of (entry_judged last e) ≡ entry_number last e
unfolding entry_judged entry_number
entry_numbered last e =
    by_cases (note_rule last e.note)
    (λ note.
    by_cases (good_length e.sample)
    (λ size. by_cases (good_loop e.sample) (λ loop. simp (note, size, loop)) (λ loop. simp (note, size, loop)))
    (λ size. simp (note, size)))
    (λ note. simp note)

pub line_numbered : (last : ℕ) (l : Result (Read Entry) Fault) → number_of (line_judged last l) ≡ note_number last (line_of l)
unfolding line_judged note_number
line_numbered last (Ok l) = accepted_number l (entry_judged last l.value) ∙ entry_numbered last l.value
  where
    accepted_number : (l : Read Entry) (r : Result ⊤ Refusal) → number_of (accepted_read l r) ≡ number_of r
    accepted_number l (Ok _) = refl
    accepted_number l (Err refusal) = refl
line_numbered last (Err fault) = simp (wants fault.wanted)

-- and what is accepted is what was read
pub header_read : (h : Result (Read ℕ) Fault) (read : Read ℕ) → Ok read ≡ header_judged h → h ≡ Ok read
unfolding header_judged
header_read (Ok h) read e =
    by_cases (count_rule h.value)
    (λ good. let same : ◌≡◌ {A = Result (Read ℕ) Refusal} (Ok read) (Ok h) = e ∙ simp good in cc)
    (λ bad. let other : ◌≡◌ {A = Result (Read ℕ) Refusal} (Ok read) (Err TheVariants.CountOrNote) = e ∙ simp bad in cc)
header_read (Err fault) read e = cc

pub line_read : (last : ℕ) (l : Result (Read Entry) Fault) (read : Read Entry) → Ok read ≡ line_judged last l → l ≡ Ok read
unfolding line_judged
line_read last (Ok l) read e = of_entry (entry_judged last l.value) e
  where
    of_entry : (r : Result ⊤ Refusal) → Ok read ≡ accepted_read l r → ◌≡◌ {A = Result (Read Entry) Fault} (Ok l) (Ok read)
    of_entry (Ok _) f = cc
    of_entry (Err refusal) f = cc
line_read last (Err fault) read e = cc

-- a sheet is accepted where the code found no bad line
pub verdict_good : (judged : Result ⊤ Bad) → eqb (verdict_of judged).number accepted ≡ is_ok judged
unfolding verdict_of all_good verdict_at
verdict_good (Ok _) = refl
verdict_good (Err bad) = ne_eqb (number_by bad.refusal) accepted (not_accepted bad.refusal)

-- and what a host is told determines what the code answered
pub verdict_once : (x y : Result ⊤ Bad) → verdict_of x ≡ verdict_of y → x ≡ y
unfolding verdict_of all_good verdict_at
verdict_once (Ok _) (Ok _) e = refl
verdict_once (Ok _) (Err b) e = absurd (not_accepted b.refusal (sym (ap (λ (v : Verdict). v.number) e)))
verdict_once (Err a) (Ok _) e = absurd (not_accepted a.refusal (ap (λ (v : Verdict). v.number) e))
verdict_once (Err a) (Err b) e =
    let refusal : a.refusal ≡ b.refusal = one_number a.refusal b.refusal (ap (λ (v : Verdict). v.number) e) in
    let line : a.line ≡ b.line = ap (λ (v : Verdict). v.line) e in
    λ i. Err (record { refusal = refusal i; line = line i })

-- in the code's steps: line 1 is refused, or there are note lines
module _ (text : List ℕ) (from : ℕ) (h : Result (Read ℕ) Fault) (eh : field_of h ≡ header_line text from edition1) where
  pub no_header : (r : Refusal) → Err r ≡ header_judged h → verdict_of (Err (record { refusal = r; line = 1 })) ≡ judged text from
  unfolding verdict_of
  no_header r e =
      let number : number_by r ≡ header_number (field_of h) = ap number_of e ∙ header_numbered h in
      header_decides text from (field_of h) (number_by r) eh number (not_accepted r)

  module _ (read : Read ℕ) (e : Ok read ≡ header_judged h) where
    number : accepted ≡ header_number (field_of h)
    number = ap number_of e ∙ header_numbered h

    pub few_lines : read.value ≤ 32
    few_lines = let same : field_of h ≡ field_of (Ok read) = ap field_of (header_read h read e) in rw (← ap (λ (f : Field). f.value) same) (most_notes (field_of h) accepted number refl)

    pub first_line : judged text from ≡ judged_notes (read.value + 2 - 2) text read.next 2 0
    first_line =
        let same : field_of h ≡ field_of (Ok read) = ap field_of (header_read h read e) in
        let notes : read.value + 2 - 2 ≡ read.value = omega arith in
        notes_decide text from (field_of h) accepted eh number refl ∙ rw (same, notes)

-- a note line is refused, or the next one follows; the lines are numbered up to an end
module _ (text : List ℕ) (end line at last : ℕ) (l : Result (Read Entry) Fault) (el : line_of l ≡ note_line text at) (more : line < end) where
  left : end - line ≡ suc (end - (line + 1))
  left = omega arith

  pub this_line : (r : Refusal) → Err r ≡ line_judged last l → verdict_of (Err (record { refusal = r; line = line })) ≡ judged_notes (end - line) text at line last
  unfolding verdict_of
  this_line r e =
      let number : number_by r ≡ note_number last (line_of l) = ap number_of e ∙ line_numbered last l in
      rw left (sym (this_decides text _ at line last (line_of l) el (number_by r) number (not_accepted r)))

  pub next_line : (read : Read Entry) → Ok read ≡ line_judged last l
      → judged_notes (end - line) text at line last ≡ judged_notes (end - (line + 1)) text read.next (line + 1) read.value.note
  next_line read e =
      let number : accepted ≡ note_number last (line_of l) = ap number_of e ∙ line_numbered last l in
      let same : line_of l ≡ line_of (Ok read) = ap line_of (line_read last l read e) in
      rw left (rest_decides text _ at line last (line_of l) el accepted number refl ∙ rw same)

-- after the last of them
module _ (text : List ℕ) (end line at last : ℕ) (done : end ≤ line) where
  none : end - line ≡ 0
  none = omega arith

  pub text_after_lines : line ≤ end → at < length text → verdict_of (Err (record { refusal = TheVariants.Form; line = end })) ≡ judged_notes (end - line) text at line last
  unfolding verdict_of
  text_after_lines within h =
      let same : end ≡ line = omega arith in
      rw (none, same) (sym (text_follows text at line last h))

  pub end_of_lines : length text ≤ at → verdict_of (Ok tt) ≡ judged_notes (end - line) text at line last
  unfolding verdict_of all_good
  end_of_lines h = rw none (sym (nothing_follows text at line last h))

pub ruleset line_steps = (no_header, few_lines, first_line, this_line, next_line, text_after_lines, end_of_lines)
