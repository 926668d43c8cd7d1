-- The rank sheet's grammar: document 01, "The rank sheet". No reader is in it: it says what a digest, a field, a line and a sheet are;
-- what a number is, is said in the crate `decimal`.
use Rattle.std.specs.Prelude.{ℕ, ◌+◌, ◌*◌, ◌≡◌, List, [], ◌∷◌, ◌++◌, true, length}
use Rattle.hex_digits.specs.Digits.{IsDigit}
use Rattle.decimal.specs.Numbers.{IsNumber}
use Rattle.rules.specs.Rules.{count_rule, note_rule, good_length, good_loop}
use Rattle.lines.specs.declared.Entry.{Entry}

-- bytes, each of two hex digits
pub data Pairs : (text bytes : List ℕ) → Type 0 where
  no_pair : Pairs [] []
  pair :
      {first second : ℕ} {text bytes : List ℕ} (high low : ℕ)
      → IsDigit first high
      → IsDigit second low
      → Pairs text bytes
      → Pairs (first ∷ second ∷ text) ((high * 16 + low) ∷ bytes)

-- "A digest is 64 characters": digits, by the rule of `hex`
unfoldable pub IsDigest : (text bytes : List ℕ) → Type 0
IsDigest text bytes = Pairs text bytes × (length text ≡ 64)

-- "fields parted by one tab (9)", lines "each ended by LF (10)": a number and the byte after it
pub record IsField (text : List ℕ) (value ending : ℕ) : Type 0 where
  pub number : List ℕ
  pub is_number : IsNumber number value
  pub whole : text ≡ number ++ (ending ∷ [])

-- "Line 1: `RANK`, `1`, and the number of notes n"
pub record IsHeader (text : List ℕ) (count : ℕ) : Type 0 where
  pub field : List ℕ
  pub is_count : IsField field count 10
  pub whole : text ≡ 0x52 ∷ 0x41 ∷ 0x4e ∷ 0x4b ∷ 9 ∷ 0x31 ∷ 9 ∷ field

-- "note, length in bytes, loop start, loop end (frames), digest"
pub record IsLine (text : List ℕ) (e : Entry) : Type 0 where
  pub note : List ℕ
  pub size : List ℕ
  pub start : List ℕ
  pub end : List ℕ
  pub digest : List ℕ
  pub is_note_lem : IsField note e.note 9
  pub is_length : IsField size e.sample.length 9
  pub is_start : IsField start e.sample.loop_start 9
  pub is_end : IsField end e.sample.loop_end 9
  pub is_digest : IsDigest digest e.sample.digest
  pub whole : text ≡ note ++ (size ++ (start ++ (end ++ (digest ++ (10 ∷ [])))))

-- lines, one after the other
pub data Lines : (text : List ℕ) (es : List Entry) → Type 0 where
  no_line : Lines [] []
  line : {text rest : List ℕ} {e : Entry} {es : List Entry} → IsLine text e → Lines rest es → Lines (text ++ rest) (e ∷ es)

-- a line's numbers obey rules 2 to 4, after a note or after 0
pub record ObeysRules (last : ℕ) (e : Entry) : Type 0 where
  pub note_rule_lem : note_rule last e.note ≡ true
  pub length_rule_lem : good_length e.sample ≡ true
  pub loop_rule_lem : good_loop e.sample ≡ true

-- every line obeys the rules, after a note
pub data AllObey : (last : ℕ) (es : List Entry) → Type 0 where
  no_entry_lem : {last : ℕ} → AllObey last []
  entry : {last : ℕ} {e : Entry} {es : List Entry} → ObeysRules last e → AllObey e.note es → AllObey last (e ∷ es)

-- a sheet: line 1, "n, 1..32", "Then n lines", "Nothing follows"
pub record IsSheet (text : List ℕ) (es : List Entry) : Type 0 where
  pub header : List ℕ
  pub lines : List ℕ
  pub is_header : IsHeader header (length es)
  pub count_rule_lem : count_rule (length es) ≡ true
  pub are_lines : Lines lines es
  pub obeyed : AllObey 0 es
  pub whole : text ≡ header ++ lines
