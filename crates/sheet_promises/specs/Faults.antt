-- What is wrong with a text that is no sheet: document 01, "The rank sheet" and "Refusal numbers". No reader is in it.
-- "Lines are judged in order and the first bad one decides. Within a line: form (1); then count or note (2); length (3); loop (4)."
use Rattle.std.specs.Prelude.{ℕ, suc, ◌+◌, ◌≡◌, List, ◌∷◌, ◌++◌, true, false}
use Rattle.refusal.specs.Table.{form, count_or_note, bad_length, bad_loop}
use Rattle.rules.specs.Rules.{count_rule, note_rule, good_length, good_loop}
use Rattle.lines.specs.declared.Entry.{Entry}
use Rattle.sheet_promises.specs.Grammar.{IsHeader, IsLine, ObeysRules}

-- a well-formed line that breaks a rule, and none before it
pub data Breaks (last : ℕ) (e : Entry) : (number : ℕ) → Type 0 where
  note : note_rule last e.note ≡ false → Breaks last e count_or_note
  size : note_rule last e.note ≡ true → good_length e.sample ≡ false → Breaks last e bad_length
  loop :
      note_rule last e.note ≡ true
      → good_length e.sample ≡ true
      → good_loop e.sample ≡ false
      → Breaks last e bad_loop

-- what is wrong where a note line is to begin: no line of that form does, or one that breaks a rule
pub data BadLine (last : ℕ) (text : List ℕ) : (number : ℕ) → Type 0 where
  ill_formed :
      ((front rest : List ℕ) (e : Entry) → IsLine front e → text ≡ front ++ rest → ⊥)
      → BadLine last text form
  breaks :
      {number : ℕ} (front rest : List ℕ) (e : Entry)
      → IsLine front e
      → text ≡ front ++ rest
      → Breaks last e number
      → BadLine last text number

-- the first bad line, its number and which it is, of a text that begins at a line's number, with so many notes to come, after a note
pub data FirstBad : (line notes last : ℕ) (text : List ℕ) (number bad : ℕ) → Type 0 where
  here :
      {line notes last number : ℕ} {text : List ℕ}
      → BadLine last text number
      → FirstBad line (suc notes) last text number line
  later :
      {line notes last number bad : ℕ} {text front rest : List ℕ} {e : Entry}
      → IsLine front e
      → text ≡ front ++ rest
      → ObeysRules last e
      → FirstBad (line + 1) notes e.note rest number bad
      → FirstBad line (suc notes) last text number bad
  -- "Text after the n notes is a form fault at line n + 2"
  follows : {line last byte : ℕ} {rest : List ℕ} → FirstBad line 0 last (byte ∷ rest) form line

-- the refusal number of a text, and the line
pub data Refused (text : List ℕ) : (number line : ℕ) → Type 0 where
  no_header :
      ((front rest : List ℕ) (count : ℕ) → IsHeader front count → text ≡ front ++ rest → ⊥)
      → Refused text form 1
  count :
      (front rest : List ℕ) (count : ℕ)
      → IsHeader front count
      → text ≡ front ++ rest
      → count_rule count ≡ false
      → Refused text count_or_note 1
  notes :
      {number bad : ℕ} (front rest : List ℕ) (count : ℕ)
      → IsHeader front count
      → text ≡ front ++ rest
      → count_rule count ≡ true
      → FirstBad 2 count 0 rest number bad
      → Refused text number bad
