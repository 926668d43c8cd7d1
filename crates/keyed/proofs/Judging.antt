-- The MAC line and its code, judged as the code does it: each way through by its own law. Assumes nothing.
use mathlib.Core.Path.{◌≡◌, refl, sym, ap, ◌∙◌}
use mathlib.Core.Logic.{⊎_elim}
use Prim.Native.Nat.{ℕ, ◌-◌, ◌≤◌, ◌<◌}
use native.Mathlib.Omega.{arith}
use mathlib.Core.Bool.{Bool, true, false}
use mathlib.Core.List.{List, [], ◌∷◌}
use lib.Dec.{eqb}
use lib.ListN.{length, get_or, take}
use borrow.Author.Tests.{lt-ltb, le-ltb, le-leb, lt-leb, eq-eqb, ne_eqb, eqb-true, eqb-false}
use Rattle.truth.proofs.Tests.{either}
use Rattle.std.specs.Prelude.{⊤, Result, Ok, Err}
use Rattle.std.specs.Result.{is_ok}
use Rattle.refusal.proofs.Telling.{not_accepted}
use Rattle.refusal.specs.declared.Refusal.{Refusal}
use Rattle.refusal.specs.Table.{number_by, number_of, accepted, too_long, no_mac_line, other_code}
use Rattle.units.specs.Units.{longest}
use Rattle.hash.specs.Told.{compared_of}
use Rattle.hash.specs.declared.Compared.{Compared}
use Rattle.lines.specs.declared.Fault.{Fault}
use Rattle.lines.specs.declared.Read.{Read}
use Rattle.lines.specs.Reading.{word, separator, tab, lf, good_stop, fault_of, is_good, mark_at, mark_after, word_at, word_after}
use Rattle.lines.specs.Fields.{DigestField, good_digest, digest_fault, digest_at, digest_after}
use Rattle.lines.proofs.Marks.{has_in, wants, wanted_not}
use Rattle.mac.specs.Codes.{compare_message}
use Rattle.session.specs.Sessions.{empty_session}
use Rattle.sheet.specs.Judging.{verdict_at, verdict_of, sheet_of}
use Rattle.sheet.specs.declared.Verdict.{Verdict}
use Rattle.keyed.specs.Keyed.{begins_line, mac_line_at, whole, code_number, mac_number, covered, keyed_verdict, keyed_of}

-- where a line begins
module _ (text : List ℕ) (at : ℕ) where
  pub begins_first : at ≡ 0 → begins_line text at ≡ true
  unfolding begins_line
  begins_first e = rw (eq-eqb at 0 e)

  pub begins_behind : (at ≡ 0 → ⊥) → at ≤ length text → begins_line text at ≡ eqb (get_or text (at - 1) 0) lf
  unfolding begins_line
  begins_behind f within = rw (ne_eqb at 0 f, has_in text (at - 1) lf (omega arith))

-- the MAC line, from its steps: the first fault is the line's, and where there is none its code is read
module _ (text : List ℕ) (at : ℕ) where
  pub no_word : (f : Fault) → fault_of f ≡ word_at text at (0x4d ∷ 0x41 ∷ 0x43 ∷ []) word → digest_fault (fault_of f) ≡ whole (mac_line_at text at)
  unfolding mac_line_at word_after mark_after digest_after
  no_word f e = rw (← e) (sym (simp (wants f.wanted)))

  module _ (mac : ℕ) (e₁ : good_stop mac ≡ word_at text at (0x4d ∷ 0x41 ∷ 0x43 ∷ []) word) where
    pub no_tab : (f : Fault) → fault_of f ≡ mark_at text mac tab separator → digest_fault (fault_of f) ≡ whole (mac_line_at text at)
    unfolding mac_line_at word_after mark_after digest_after
    no_tab f e = rw (← e₁, ← e) (sym (simp (wants f.wanted)))

    module _ (tabbed : ℕ) (e₂ : good_stop tabbed ≡ mark_at text mac tab separator) where
      pub no_code : (f : Fault) → digest_fault (fault_of f) ≡ digest_at text tabbed → digest_fault (fault_of f) ≡ whole (mac_line_at text at)
      unfolding mac_line_at word_after mark_after digest_after
      no_code f e = rw (← e₁, ← e₂, ← e) (sym (simp (wants f.wanted)))

      module _ (code : Read (List ℕ)) (e₃ : good_digest code.value code.next ≡ digest_at text tabbed) where
        pub no_close : (f : Fault) → fault_of f ≡ mark_at text code.next lf separator → digest_fault (fault_of f) ≡ whole (mac_line_at text at)
        unfolding mac_line_at word_after mark_after digest_after
        no_close f e = rw (← e₁, ← e₂, ← e₃, ← e) (sym (simp (wants f.wanted)))

        pub whole_mac : (next : ℕ) → good_stop next ≡ mark_at text code.next lf separator → good_digest code.value next ≡ whole (mac_line_at text at)
        unfolding mac_line_at word_after mark_after digest_after
        whole_mac next e = rw (← e₁, ← e₂, ← e₃, ← e)

pub ruleset mac_steps = (no_word, no_tab, no_code, no_close)

-- what was read of it tells whether it is well formed
pub whole_bad : (line : DigestField) (f : Fault) → digest_fault (fault_of f) ≡ whole line → is_good line.stop ≡ false
whole_bad line f e =
    ⊎_elim
    (λ (good : is_good line.stop ≡ true).
    let same : digest_fault (fault_of f) ≡ line = e ∙ simp good in
    absurd (wanted_not f.wanted (ap (λ (d : DigestField). d.stop.wanted) same ∙ eqb-true _ _ good)))
    (λ bad. bad)
    (either (is_good line.stop))

pub whole_good : (line : DigestField) (read : Read (List ℕ)) → good_digest read.value read.next ≡ whole line
    → (is_good line.stop ≡ true) × (read.value ≡ line.digest)
whole_good line read e =
    ⊎_elim
    (λ (good : is_good line.stop ≡ true). let same : good_digest read.value read.next ≡ line = e ∙ simp good in (good, ap (λ (d : DigestField). d.digest) same))
    (λ (bad : is_good line.stop ≡ false).
    let same : good_digest read.value read.next ≡ digest_fault line.stop = e ∙ simp bad in
    absurd (eqb-false _ _ bad (sym (ap (λ (d : DigestField). d.stop.wanted) same))))
    (either (is_good line.stop))

-- the code
module _ (key bytes code : List ℕ) (c : Compared) (e : c ≡ compare_message key bytes code) where
  pub code_refused : (c.number ≡ accepted → ⊥) → c.number ≡ code_number key bytes code
  unfolding code_number
  code_refused f = rw (← e, ne_eqb c.number accepted f)

  pub code_fits : c.number ≡ accepted → c.same ≡ true → accepted ≡ code_number key bytes code
  unfolding code_number
  code_fits n s = rw (← e, eq-eqb c.number accepted n, s)

  pub code_other : c.number ≡ accepted → c.same ≡ false → other_code ≡ code_number key bytes code
  unfolding code_number
  code_other n s = rw (← e, eq-eqb c.number accepted n, s)

-- as the code answers it: it is not compared, or it is the same or not
module _ (key bytes code : List ℕ) where
  pub not_compared : (r : Refusal) → compared_of (Err r) ≡ compare_message key bytes code → number_by r ≡ code_number key bytes code
  not_compared r e = code_refused key bytes code (compared_of (Err r)) e (not_accepted r)

  pub code_same : (same : Bool) → compared_of (Ok same) ≡ compare_message key bytes code → same ≡ true → accepted ≡ code_number key bytes code
  code_same same e s = code_fits key bytes code (compared_of (Ok same)) e refl s

  pub code_differs : (same : Bool) → compared_of (Ok same) ≡ compare_message key bytes code → same ≡ false → other_code ≡ code_number key bytes code
  code_differs same e s = code_other key bytes code (compared_of (Ok same)) e refl s

pub ruleset code_steps = (not_compared, code_same, code_differs)

-- key, line and code
module _ (key text : List ℕ) where
  abbrev at : ℕ
  at = length text - 69

  pub key_past : longest < length key → mac_number key text ≡ too_long
  unfolding mac_number
  key_past past = rw (lt-ltb longest (length key) past)

  module _ (fits : length key ≤ longest) where
    pub too_short : length text < 69 → mac_number key text ≡ no_mac_line
    unfolding mac_number
    too_short few = rw (le-ltb longest (length key) fits, lt-leb 69 (length text) few)

    module _ (enough : 69 ≤ length text) where
      pub not_begun_lem : begins_line text at ≡ false → mac_number key text ≡ no_mac_line
      unfolding mac_number
      not_begun_lem f = rw (le-ltb longest (length key) fits, le-leb 69 (length text) enough, f)

      module _ (begins : begins_line text at ≡ true) where
        pub ill_formed : is_good (mac_line_at text at).stop ≡ false → mac_number key text ≡ no_mac_line
        unfolding mac_number
        ill_formed f = rw (le-ltb longest (length key) fits, le-leb 69 (length text) enough, begins, f)

        pub well_formed : is_good (mac_line_at text at).stop ≡ true → mac_number key text ≡ code_number key (take at text) (mac_line_at text at).digest
        unfolding mac_number
        well_formed g = rw (le-ltb longest (length key) fits, le-leb 69 (length text) enough, begins, g)

-- as the code does it: the line that was read, or that it is ill formed
module _ (key text : List ℕ) (fits : length key ≤ longest) (enough : 69 ≤ length text) (begins : begins_line text (length text - 69) ≡ true) where
  pub bad_line : (f : Fault) → digest_fault (fault_of f) ≡ whole (mac_line_at text (length text - 69)) → mac_number key text ≡ no_mac_line
  bad_line f e = ill_formed key text fits enough begins (whole_bad _ f e)

  pub good_line_lem : (line : Read (List ℕ)) → good_digest line.value line.next ≡ whole (mac_line_at text (length text - 69))
      → code_number key (take (length text - 69) text) line.value ≡ mac_number key text
  good_line_lem line e =
      let read = whole_good (mac_line_at text (length text - 69)) line e in
      ap (λ (code : List ℕ). code_number key (take (length text - 69) text) code) read.1 ∙ sym (well_formed key text fits enough begins read.0)

pub ruleset number_steps = (key_past, too_short, not_begun_lem, bad_line, good_line_lem)

-- what is covered
pub covered_none : (text : List ℕ) (number : ℕ) → (number ≡ accepted → ⊥) → covered text number ≡ []
unfolding covered
covered_none text number f = rw (ne_eqb number accepted f)

pub covered_all : (text : List ℕ) (number : ℕ) → number ≡ accepted → covered text number ≡ take (length text - 69) text
unfolding covered
covered_all text number e = rw (eq-eqb number accepted e)

pub covered_short : (text : List ℕ) (number : ℕ) → number ≡ accepted → length text < 69 → covered text number ≡ []
covered_short text number e few =
    let none : length text - 69 ≡ 0 = omega arith in
    covered_all text number e ∙ ap (λ (n : ℕ). take n text) none

-- the same of what the code answered of the MAC line
pub refused_not : (mac : Result ⊤ Refusal) → is_ok mac ≡ false → number_of mac ≡ accepted → ⊥
refused_not (Ok _) f e = cc
refused_not (Err r) f e = not_accepted r e

pub passed : (mac : Result ⊤ Refusal) → is_ok mac ≡ true → number_of mac ≡ accepted
passed (Ok _) t = refl
passed (Err r) t = cc

-- the verdict
module _ (number : ℕ) (v : Verdict) where
  pub verdict_refused : (number ≡ accepted → ⊥) → keyed_verdict number v ≡ record { number = number; line = 0 }
  unfolding keyed_verdict verdict_at
  verdict_refused f = rw (ne_eqb number accepted f)

  pub verdict_passed : number ≡ accepted → keyed_verdict number v ≡ v
  unfolding keyed_verdict
  verdict_passed e = rw (eq-eqb number accepted e)

-- as the code answers it
pub verdict_line_0 : (r : Refusal) (v : Verdict) → verdict_of (Err (record { refusal = r; line = 0 })) ≡ keyed_verdict (number_by r) v
unfolding verdict_of verdict_at
verdict_line_0 r v = sym (verdict_refused (number_by r) v (not_accepted r))

pub ruleset cover_steps = (covered_none, covered_all, covered_short, refused_not, passed)

pub ruleset verdict_steps = (verdict_line_0, verdict_passed)

-- the whole
module _ (key text : List ℕ) where
  pub keyed_refused : (mac_number key text ≡ accepted → ⊥)
      → keyed_of key text ≡ record { verdict = record { number = mac_number key text; line = 0 }; session = empty_session }
  unfolding keyed_of verdict_at
  keyed_refused f = rw (ne_eqb (mac_number key text) accepted f)

  pub keyed_read : mac_number key text ≡ accepted → keyed_of key text ≡ sheet_of (covered text accepted)
  unfolding keyed_of
  keyed_read e = rw (eq-eqb (mac_number key text) accepted e)
