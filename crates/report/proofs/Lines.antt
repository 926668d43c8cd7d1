-- Lines put together part by part, how long they are, and the lines of a session one after the other. Assumes nothing.
use Prim.Native.Nat.{ℕ, zero, suc, ◌+◌, ◌*◌, ◌^◌, ◌≤◌, ◌<◌}
use mathlib.Core.Path.{◌≡◌, sym, ◌∙◌}
use mathlib.Core.List.{List, [], ◌∷◌, ◌++◌}
use mathlib.Core.Bool.{Bool, true, false, cond}
use native.Mathlib.Numerals.{add-one}
use native.Mathlib.Omega.{arith}
use borrow.Author.Tests.{eq-eqb, ne_eqb}
use lib.Dec.{eqb}
use lib.ListN.{length, length-append}
use Rattle.refusal.specs.Table.{accepted}
use Rattle.decimal.specs.Writing.{decimal}
use Rattle.decimal.proofs.Spelling.{few}
use Rattle.texts.specs.Texts.{empty_text, with_part, text_of}
use Rattle.texts.specs.declared.Text.{Text}
use Rattle.texts.proofs.Parts.{next, of_none}
use Rattle.slots.specs.Slots.{waiting, opened}
use Rattle.slots.specs.declared.Answer.{Answer}
use Rattle.rules.proofs.Rules.{is_note_is}
use Rattle.session.specs.Sessions.{slot_index}
use Rattle.session.proofs.Putting.{index_of_note}
use Rattle.session.specs.Operations.{ask}
use Rattle.session.specs.declared.Session.{Session}
use Rattle.report.specs.Report.{word, note_line, line_of, lines_to, report}
use Rattle.report.specs.Promises.{Counted}

-- six parts, one behind the other
pub six_parts : (a b c d e f : List ℕ) {t₀ t₁ t₂ t₃ t₄ t₅ t₆ : Text}
    → length a + length b + length c + length d + length e + length f ≤ 1024
    → t₀ ≡ empty_text → t₁ ≡ with_part t₀ a → t₂ ≡ with_part t₁ b → t₃ ≡ with_part t₂ c → t₄ ≡ with_part t₃ d → t₅ ≡ with_part t₄ e → t₆ ≡ with_part t₅ f
    → t₆ ≡ text_of (a ++ b ++ c ++ d ++ e ++ f)
six_parts a b c d e f fits e₀ e₁ e₂ e₃ e₄ e₅ e₆ =
    let l₂ = length-append a b in
    let l₃ = length-append (a ++ b) c in
    let l₄ = length-append (a ++ b ++ c) d in
    let l₅ = length-append (a ++ b ++ c ++ d) e in
    let n₁ = next [] a (e₀ ∙ sym of_none) e₁ (omega arith) in
    let n₂ = next a b n₁ e₂ (omega arith) in
    let n₃ = next (a ++ b) c n₂ e₃ (omega arith) in
    let n₄ = next (a ++ b ++ c) d n₃ e₄ (omega arith) in
    let n₅ = next (a ++ b ++ c ++ d) e n₄ e₅ (omega arith) in
    next (a ++ b ++ c ++ d ++ e) f n₅ e₆ (omega arith)

six_long : (a b c d e f : List ℕ) → length (a ++ b ++ c ++ d ++ e ++ f) ≡ length a + length b + length c + length d + length e + length f
six_long a b c d e f = simp length-append

-- a word has at most seven letters
pub word_short : (status : ℕ) → length (word status) ≤ 7
unfolding word
word_short status =
    by (eqb status waiting) (eqb status opened) (0x77 ∷ 0x61 ∷ 0x69 ∷ 0x74 ∷ 0x69 ∷ 0x6e ∷ 0x67 ∷ []) (0x6f ∷ 0x70 ∷ 0x65 ∷ 0x6e ∷ [])
    (0x73 ∷ 0x68 ∷ 0x75 ∷ 0x74 ∷ []) (omega arith) (omega arith) (omega arith)
  where
    by : (p q : Bool) (x y z : List ℕ) → length x ≤ 7 → length y ≤ 7 → length z ≤ 7 → length (cond p x (cond q y z)) ≤ 7
    by true q x y z hx hy hz = hx
    by false true x y z hx hy hz = hy
    by false false x y z hx hy hz = hz

-- the words, by their status
module _ (status : ℕ) where
  pub word_waiting : status ≡ waiting → word status ≡ 0x77 ∷ 0x61 ∷ 0x69 ∷ 0x74 ∷ 0x69 ∷ 0x6e ∷ 0x67 ∷ []
  unfolding word
  word_waiting h = rw (eq-eqb status waiting h)

  pub word_opened : (status ≡ waiting → ⊥) → status ≡ opened → word status ≡ 0x6f ∷ 0x70 ∷ 0x65 ∷ 0x6e ∷ []
  unfolding word
  word_opened n h = rw (ne_eqb status waiting n, eq-eqb status opened h)

  pub word_shut : (status ≡ waiting → ⊥) → (status ≡ opened → ⊥) → word status ≡ 0x73 ∷ 0x68 ∷ 0x75 ∷ 0x74 ∷ []
  unfolding word
  word_shut n h = rw (ne_eqb status waiting n, ne_eqb status opened h)

-- a number of 64 bits has at most twenty figures
pub figures : (n : ℕ) → n < 2 ^ 64 → length (decimal n) ≤ 20
figures n fits = few 20 n (omega arith) (omega arith)

-- a note of k figures has a line of at most k + 30 bytes
pub note_short : (note k : ℕ) (a : Answer) → 1 ≤ k → note < 10 ^ k → a.taken < 2 ^ 64 → length (note_line note a) ≤ k + 30
unfolding note_line
note_short note k a some below fits =
    rw (six_long (decimal note) (0x09 ∷ []) (word a.status) (0x09 ∷ []) (decimal a.taken) (0x0a ∷ []))
    (let n = few k note some below in
    let w = word_short a.status in
    let t = figures a.taken fits in
    omega arith)

module _ (note : ℕ) (a : Answer) where
  pub listed : a.number ≡ accepted → line_of note a ≡ note_line note a
  unfolding line_of
  listed h = rw (eq-eqb a.number accepted h)

  pub not_listed : (a.number ≡ accepted → ⊥) → line_of note a ≡ []
  unfolding line_of
  not_listed h = rw (ne_eqb a.number accepted h)

  pub line_short : note ≤ 32 → a.taken < 2 ^ 64 → length (line_of note a) ≤ 32
  unfolding line_of
  line_short small fits = by (eqb a.number accepted)
    where
      by : (p : Bool) → length (cond p (note_line note a) []) ≤ 32
      by true = note_short note 2 a (omega arith) (omega arith) fits
      by false = omega arith

-- one note more
pub record LinesTo (s : Session) (n : ℕ) (text : Text) : Type 0 where
  pub short : length (lines_to s n) ≤ n * 32
  pub lines : text ≡ text_of (lines_to s n)

pub none_yet : (s : Session) (text : Text) → text ≡ empty_text → LinesTo s 0 text
unfolding lines_to
none_yet s text e = record { short = omega arith; lines = e ∙ sym of_none }

module _ (s : Session) (n : ℕ) (more : n < 32) (short : length (lines_to s n) ≤ n * 32) (fits : (ask s (n + 1)).taken < 2 ^ 64) where
  long_more : length (lines_to s (n + 1)) ≤ (n + 1) * 32
  unfolding lines_to
  long_more =
      rw (add-one, length-append)
      (let l = rw add-one at (line_short (n + 1) (ask s (n + 1)) (omega arith) fits) in
      omega arith)

  pub one_more : (text after : Text) → text ≡ text_of (lines_to s n) → after ≡ with_part text (line_of (n + 1) (ask s (n + 1))) → LinesTo s (n + 1) after
  unfolding lines_to
  one_more text after so e =
      let l = rw add-one at (line_short (n + 1) (ask s (n + 1)) (omega arith) fits) in
      let room : length (lines_to s n) + length (line_of (suc n) (ask s (suc n))) ≤ 1024 = omega arith in
      record {
        short = long_more;
        lines = rw add-one (next (lines_to s n) (line_of (suc n) (ask s (suc n))) so (rw add-one at e) room);
      }

lines_short : (s : Session) → Counted s → (n : ℕ) → n ≤ 32 → length (lines_to s n) ≤ n * 32
unfolding lines_to
lines_short s counted zero small = omega arith
lines_short s counted (suc n) small =
    rw length-append
    (let before = lines_short s counted n (omega arith) in
    let l = line_short (suc n) (ask s (suc n)) (omega arith) (counted (suc n) (omega arith) (omega arith)) in
    omega arith)

pub report_short : (s : Session) → Counted s → length (report s) ≤ 1024
unfolding report
report_short s counted = lines_short s counted 32 (omega arith)

-- a slot's place is the index of its note
pub place_is : (n : ℕ) → n < 32 → n ≡ slot_index (n + 1)
place_is n small = sym (index_of_note (n + 1) ((is_note_is (n + 1)).1 (omega arith, omega arith)) ∙ omega arith)

-- the answer that was asked for is the one whose line is put
pub asked_more : (s : Session) (n : ℕ) (text after : Text) (a : Answer) → n < 32 → LinesTo s n text → a ≡ ask s (n + 1) → a.taken < 2 ^ 64
    → after ≡ with_part text (line_of (n + 1) a) → LinesTo s (n + 1) after
asked_more s n text after a more so asked fits e = one_more s n more so.short (rw asked at fits) text after so.lines (rw asked at e)

-- all of them
pub all_lines : (s : Session) (n : ℕ) (text : Text) → n ≤ 32 → 32 ≤ n → LinesTo s n text → text ≡ text_of (report s)
unfolding report
all_lines s n text small done so = let all : n ≡ 32 = omega arith in rw all at so.lines
