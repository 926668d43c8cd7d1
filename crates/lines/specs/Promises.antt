-- What each step of reading answers: where it stops, and what it wanted there. All of it is proved in proofs/Proved.antt.
use Rattle.std.specs.Prelude.{ℕ, zero, suc, ◌+◌, ◌*◌, ◌<◌, ◌≤◌, ◌≡◌, ◌↔◌, List, [], ◌∷◌, true, false, length, get_or, replicate, Some, None, Result, Ok, Err}
use Rattle.hex_digits.specs.Digits.{digit_of}
use Rattle.decimal.specs.Reading.{numeral_at}
use Rattle.decimal.specs.declared.Numeral.{Numeral}
use Rattle.lines.specs.declared.Entry.{Entry}
use Rattle.lines.specs.declared.Fault.{Fault}
use Rattle.lines.specs.declared.Read.{Read}
use Rattle.lines.specs.declared.Wanted.TheVariants
use Rattle.lines.specs.declared.Stop.{Stop}
use Rattle.lines.specs.Reading.{number_by, stop_of, nothing, word, number, separator, digit, tab, lf, good_stop, is_good, has_at, mark_at, word_at, mark_after, word_after}
use Rattle.lines.specs.declared.Field.{Field}
use Rattle.lines.specs.Fields.{DigestField, field_of, digest_of, digit_at, field_at, digest_at, field_after, digest_after}
use Rattle.lines.specs.Lines.{line_of, note_line, header_line, edition1}

-- all was well up to a place
abbrev pub good_at : (next : ℕ) → Stop
good_at next = record { wanted = 0; at = next }

-- the letters of a word before the i-th stand at a place
abbrev pub LettersBefore : (i : ℕ) (text : List ℕ) (at : ℕ) (letters : List ℕ) → Type 0
LettersBefore i text at letters = (j : ℕ) → j < i → has_at text (at + j) (get_or letters j 0) ≡ true

-- digits stand at so many places
abbrev pub DigitsBefore : (i : ℕ) (text : List ℕ) (at : ℕ) → Type 0
DigitsBefore i text at = (j : ℕ) → j < i → digit_at text (at + j) < 16

-- bytes of two digits each
unfoldable pub bytes_at : (count : ℕ) (text : List ℕ) (at : ℕ) → List ℕ
bytes_at zero text at = []
bytes_at (suc count) text at = (digit_of (get_or text at 0) * 16 + digit_of (get_or text (at + 1) 0)) ∷ bytes_at count text (at + 2)

-- the steps of a note line: "note, length in bytes, loop start, loop end (frames), digest"
pub record NoteSteps (text : List ℕ) (at : ℕ) : Type 0 where
  pub begin : Stop
  pub note : Field
  pub size : Field
  pub start : Field
  pub end : Field
  pub digest : DigestField
  pub close : Stop
  pub begins : begin ≡ good_at at
  pub reads_note : note ≡ field_after text begin 9
  pub reads_size : size ≡ field_after text note.stop 9
  pub reads_start : start ≡ field_after text size.stop 9
  pub reads_end : end ≡ field_after text start.stop 9
  pub reads_digest : digest ≡ digest_after text end.stop
  pub closes : close ≡ mark_after text digest.stop 10 3

-- those of a header: "`RANK`, `1`, and the number of notes", for an edition, which is a figure
pub record HeaderSteps (text : List ℕ) (at edition : ℕ) : Type 0 where
  pub begin : Stop
  pub rank : Stop
  pub first : Stop
  pub figure : Stop
  pub second : Stop
  pub count : Field
  pub begins : begin ≡ good_at at
  pub reads_rank : rank ≡ word_after text begin (0x52 ∷ 0x41 ∷ 0x4e ∷ 0x4b ∷ []) 1
  pub reads_first : first ≡ mark_after text rank 9 3
  pub reads_figure : figure ≡ mark_after text first edition 1
  pub reads_second : second ≡ mark_after text figure 9 3
  pub reads_count : count ≡ field_after text second 10

-- behind a fault each step answers that fault
pub record AfterFault (text : List ℕ) (before : Stop) : Type 0 where
  pub mark : (byte what : ℕ) → mark_after text before byte what ≡ before
  pub letters : (bytes : List ℕ) (what : ℕ) → word_after text before bytes what ≡ before
  pub field : (ending : ℕ) → field_after text before ending ≡ record { stop = before; value = 0 }
  pub digest : digest_after text before ≡ record { stop = before; digest = replicate 32 0 }

-- behind a step that was well each is the step at the next place
pub record AfterGood (text : List ℕ) (at : ℕ) : Type 0 where
  pub mark : (byte what : ℕ) → mark_after text (good_at at) byte what ≡ mark_at text at byte what
  pub letters : (bytes : List ℕ) (what : ℕ) → word_after text (good_at at) bytes what ≡ word_at text at bytes what
  pub field : (ending : ℕ) → field_after text (good_at at) ending ≡ field_at text at ending
  pub digest : digest_after text (good_at at) ≡ digest_at text at

-- a step of the code that was well, as the definitions tell it
pub record GoodTold (next value : ℕ) (bytes : List ℕ) (e : Entry) : Type 0 where
  pub stop : stop_of (Ok next) ≡ good_at next
  pub field : field_of (Ok (record { value = value; next = next })) ≡ record { stop = good_at next; value = value }
  pub digest : digest_of (Ok (record { value = bytes; next = next })) ≡ record { stop = good_at next; digest = bytes }
  pub line : line_of (Ok (record { value = e; next = next })) ≡ record { stop = good_at next; entry = e }

-- and one that had a fault: what it wanted, where, and no value
pub record FaultTold (f : Fault) : Type 0 where
  pub stop : stop_of (Err f) ≡ record { wanted = number_by f.wanted; at = f.at }
  pub field : field_of (Err f) ≡ record { stop = record { wanted = number_by f.wanted; at = f.at }; value = 0 }
  pub digest : digest_of (Err f) ≡ record { stop = record { wanted = number_by f.wanted; at = f.at }; digest = replicate 32 0 }
  pub line :
      line_of (Err f)
      ≡ record {
        stop = record { wanted = number_by f.wanted; at = f.at };
        entry = record { note = 0; sample = record { length = 0; loop_start = 0; loop_end = 0; digest = replicate 32 0 } };
      }

pub record Promises : Type 0 where
  -- what a step can want; "tab (9)", "LF (10)", and the figure 1
  pub wants : (nothing ∷ word ∷ number ∷ separator ∷ digit ∷ []) ≡ (0 ∷ 1 ∷ 2 ∷ 3 ∷ 4 ∷ [])
  pub bytes : (tab ∷ lf ∷ edition1 ∷ []) ≡ (9 ∷ 10 ∷ 49 ∷ [])
  -- what the code's steps answer is told as the definitions answer, and two answers that are told alike are one
  pub wanted_told :
      number_by TheVariants.Word ∷ number_by TheVariants.Number ∷ number_by TheVariants.Separator ∷ number_by TheVariants.Digit ∷ []
      ≡ 1 ∷ 2 ∷ 3 ∷ 4 ∷ []
  pub good_told : (next value : ℕ) (bytes : List ℕ) (e : Entry) → GoodTold next value bytes e
  pub fault_told : (f : Fault) → FaultTold f
  pub stop_once : (x y : Result ℕ Fault) → stop_of x ≡ stop_of y → x ≡ y
  pub field_once : (x y : Result (Read ℕ) Fault) → field_of x ≡ field_of y → x ≡ y
  pub digest_once : (x y : Result (Read (List ℕ)) Fault) → digest_of x ≡ digest_of y → x ≡ y
  pub line_once : (x y : Result (Read Entry) Fault) → line_of x ≡ line_of y → x ≡ y
  pub good_stop_lem : (next : ℕ) → good_stop next ≡ good_at next
  pub is_good_lem : (s : Stop) → (is_good s ≡ true) ↔ (s.wanted ≡ 0)
  pub after_good : (text : List ℕ) (at : ℕ) → AfterGood text at
  pub after_fault : (text : List ℕ) (before : Stop) → (before.wanted ≡ 0 → ⊥) → AfterFault text before
  -- a byte of the text
  pub has : (text : List ℕ) (at byte : ℕ) → (has_at text at byte ≡ true) ↔ ((at < length text) × (get_or text at 0 ≡ byte))
  -- one given byte: it is there, or it is wanted
  pub mark_there : (text : List ℕ) (at byte what : ℕ) → has_at text at byte ≡ true → mark_after text (good_at at) byte what ≡ good_at (at + 1)
  pub mark_wanted :
      (text : List ℕ) (at byte what : ℕ) → has_at text at byte ≡ false
      → mark_after text (good_at at) byte what ≡ record { wanted = what; at = at }
  -- a word: all its letters are there, or the first that is not is wanted
  pub word_there :
      (text : List ℕ) (at : ℕ) (letters : List ℕ) (what : ℕ) → LettersBefore (length letters) text at letters
      → word_after text (good_at at) letters what ≡ good_at (at + length letters)
  pub word_wanted :
      (text : List ℕ) (at : ℕ) (letters : List ℕ) (what i : ℕ) → i < length letters → LettersBefore i text at letters
      → has_at text (at + i) (get_or letters i 0) ≡ false
      → word_after text (good_at at) letters what ≡ record { wanted = what; at = at + i }
  -- a field: a number and the byte that ends it, or what of the two is wanted
  pub field_there :
      (text : List ℕ) (at ending : ℕ) (n : Numeral) → numeral_at text at ≡ Some n → has_at text n.next ending ≡ true
      → field_after text (good_at at) ending ≡ record { stop = good_at (n.next + 1); value = n.value }
  pub ending_wanted :
      (text : List ℕ) (at ending : ℕ) (n : Numeral) → numeral_at text at ≡ Some n → has_at text n.next ending ≡ false
      → field_after text (good_at at) ending ≡ record { stop = record { wanted = 3; at = n.next }; value = 0 }
  pub number_wanted :
      (text : List ℕ) (at ending : ℕ) → numeral_at text at ≡ None
      → field_after text (good_at at) ending ≡ record { stop = record { wanted = 2; at = at }; value = 0 }
  -- "A digest is 64 characters": all are digits, or the first that is not is wanted
  pub digit_at_lem : (text : List ℕ) (at : ℕ) → digit_at text at ≡ digit_of (get_or text at 0)
  pub digest_there :
      (text : List ℕ) (at : ℕ) → DigitsBefore 64 text at
      → digest_after text (good_at at) ≡ record { stop = good_at (at + 64); digest = bytes_at 32 text at }
  pub digit_wanted :
      (text : List ℕ) (at i : ℕ) → i < 64 → DigitsBefore i text at → 16 ≤ digit_at text (at + i)
      → digest_after text (good_at at) ≡ record { stop = record { wanted = 4; at = at + i }; digest = replicate 32 0 }
  -- a note line, from its steps: where they ended well its entry, else "record zero" of note 0
  pub line_good :
      (text : List ℕ) (at : ℕ) (s : NoteSteps text at) → s.close.wanted ≡ 0
      → note_line text at
      ≡ record {
        stop = s.close;
        entry = record {
          note = s.note.value;
          sample = record {
            length = s.size.value;
            loop_start = s.start.value;
            loop_end = s.end.value;
            digest = s.digest.digest;
          };
        };
      }
  pub line_bad :
      (text : List ℕ) (at : ℕ) (s : NoteSteps text at) → (s.close.wanted ≡ 0 → ⊥)
      → note_line text at
      ≡ record {
        stop = s.close;
        entry = record { note = 0; sample = record { length = 0; loop_start = 0; loop_end = 0; digest = replicate 32 0 } };
      }
  pub header : (text : List ℕ) (at edition : ℕ) (s : HeaderSteps text at edition) → header_line text at edition ≡ s.count
