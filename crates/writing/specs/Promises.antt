-- What is promised of writing ANY stored session: document 02, 1/13. That what is written is a sheet is promised in `writing_promises`.
use Rattle.std.specs.Prelude.{ℕ, ◌/◌, ◌%◌, ◌<◌, ◌≤◌, ◌≡◌, ◌↔◌, List, [], ◌∷◌, ◌++◌, true, false, length, drop}
use Rattle.refusal.specs.declared.Written.{Written}
use Rattle.decimal.specs.Writing.{decimal}
use Rattle.hex_digits.specs.Digits.{letter_of}
use Rattle.lines.specs.declared.Entry.{Entry}
use Rattle.slots.specs.Slots.{slot_in_order}
use Rattle.session.specs.Sessions.{slot_of}
use Rattle.session.specs.Promises.{Listed}
use Rattle.session.specs.declared.Session.{Session}
use Rattle.writing.specs.Texts.{digest_text, line_text, header_text, lines_text, sheet_text}
use Rattle.writing.specs.Writing.{entries_of, sheet_written, with_sheet}

-- "a listed slot not in order", at any of the 32 notes; and that there is none
abbrev pub Spoilt : Session → Type 0
Spoilt s = (note : ℕ) × Listed s note × (slot_in_order (slot_of s note) ≡ false)

abbrev pub Unspoilt : Session → Type 0
Unspoilt s = (note : ℕ) → Listed s note → slot_in_order (slot_of s note) ≡ true

-- "no note listed"; and that one is
abbrev pub NoneListed : Session → Type 0
NoneListed s = (note : ℕ) → Listed s note → ⊥

abbrev pub SomeListed : Session → Type 0
SomeListed s = (note : ℕ) × Listed s note

-- how long the session's sheet is
abbrev pub sheet_size : Session → ℕ
sheet_size s = length (sheet_text (entries_of s))

-- The rows of the table for writing, in their order: when a number is given; what is answered and what is in the buffer afterwards.
pub data Row (s : Session) (buffer : List ℕ) : (answer : Written) (after : List ℕ) → Type 0 where
  -- "6 for a listed slot not in order"; "count 0, buffer untouched"
  row6 : Spoilt s → Row s buffer (record { number = 6; count = 0 }) buffer
  -- "15, no note listed"
  row15 : Unspoilt s → NoneListed s → Row s buffer (record { number = 15; count = 0 }) buffer
  -- "16, buffer shorter than the sheet"
  row16 : Unspoilt s → SomeListed s → length buffer < sheet_size s → Row s buffer (record { number = 16; count = 0 }) buffer
  -- "answering the byte count; bytes after it keep their content"
  row0 :
      Unspoilt s → SomeListed s → sheet_size s ≤ length buffer
      → Row s buffer (record { number = 0; count = sheet_size s }) (sheet_text (entries_of s) ++ drop (sheet_size s) buffer)

-- of any writer: what it answers and leaves is a row that holds, and no other row holds
abbrev pub TableOf : (answering : Session → (buffer : List ℕ) → Written) (leaving : Session → (buffer : List ℕ) → List ℕ) → Type 0
TableOf answering leaving =
    (s : Session) (buffer : List ℕ) (answer : Written) (after : List ℕ)
    → ((answer ≡ answering s buffer) × (after ≡ leaving s buffer)) ↔ Row s buffer answer after

pub record Promises : Type 0 where
  -- "Refusals: 6 .. 15 .. 16 .. in that order", each exactly when
  pub table : TableOf (λ s buffer. sheet_written s (length buffer)) with_sheet
  -- the texts, spelled out, of any notes whatever the rules say of them: line 1; a line's numbers, a tab behind each, its digest, LF; a
  -- digest's bytes by two digits each
  pub header : (count : ℕ) → header_text count ≡ 0x52 ∷ 0x41 ∷ 0x4e ∷ 0x4b ∷ 9 ∷ 0x31 ∷ 9 ∷ (decimal count ++ (10 ∷ []))
  pub line :
      (e : Entry)
      → line_text e
      ≡ (decimal e.note ++ (9 ∷ []))
      ++ ((decimal e.sample.length ++ (9 ∷ []))
      ++ ((decimal e.sample.loop_start ++ (9 ∷ []))
      ++ ((decimal e.sample.loop_end ++ (9 ∷ [])) ++ (digest_text e.sample.digest ++ (10 ∷ [])))))
  pub no_digits : digest_text [] ≡ []
  pub digits : (byte : ℕ) (bytes : List ℕ) → digest_text (byte ∷ bytes) ≡ letter_of (byte / 16) ∷ letter_of (byte % 16) ∷ digest_text bytes
  pub no_lines : lines_text [] ≡ []
  pub lines : (e : Entry) (es : List Entry) → lines_text (e ∷ es) ≡ line_text e ++ lines_text es
  pub sheet : (es : List Entry) → sheet_text es ≡ header_text (length es) ++ lines_text es
