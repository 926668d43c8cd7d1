-- The crate's promises, proved: writing, by the rows of its table. Assumes nothing.
use Prim.Native.Nat.{ℕ, ◌<◌, ◌≤◌}
use mathlib.Core.Path.{◌≡◌, refl, sym}
use mathlib.Core.List.{List, ◌++◌}
use mathlib.Core.Bool.{Bool, true, false}
use borrow.Author.Tests.{lt-ltb, le-ltb, ltb-true, ltb-false}
use lib.Dec.{eqb, ltb}
use lib.ListN.{length, drop}
use Rattle.refusal.specs.Table.{accepted, slot_not_in_order, none_listed, short_buffer}
use Rattle.refusal.specs.declared.Written.{Written}
use Rattle.session.specs.declared.Session.{Session}
use Rattle.writing.specs.Texts.{field_text, digest_text, line_text, header_text, lines_text, sheet_text}
use Rattle.writing.specs.Writing.{entries_of, unspoilt_to, write_number, sheet_written, with_sheet}
use Rattle.writing.specs.Promises.{Promises, TableOf, Row, row6, row15, row16, row0, sheet_size}
use Rattle.writing.proofs.Notes.{unspoilt_is, spoilt_is, none_is, some_is}

-- the number, by its tests
module _ (s : Session) (room : ℕ) where
  number_6 : unspoilt_to s 32 ≡ false → write_number s room ≡ slot_not_in_order
  unfolding write_number
  number_6 h = simp h

  module _ (unspoilt : unspoilt_to s 32 ≡ true) where
    number_15 : eqb (length (entries_of s)) 0 ≡ true → write_number s room ≡ none_listed
    unfolding write_number
    number_15 h = simp (unspoilt, h)

    module _ (some : eqb (length (entries_of s)) 0 ≡ false) where
      number_16 : room < sheet_size s → write_number s room ≡ short_buffer
      unfolding write_number
      number_16 h = simp (unspoilt, some, lt-ltb room (sheet_size s) h)

      number_0 : sheet_size s ≤ room → write_number s room ≡ accepted
      unfolding write_number
      number_0 h = simp (unspoilt, some, le-ltb room (sheet_size s) h)

module _ (s : Session) (buffer : List ℕ) where
  -- what is answered, and what is in the buffer afterwards
  abbrev Leaves : (answer : Written) (after : List ℕ) → Type 0
  Leaves answer after = (sheet_written s (length buffer) ≡ answer) × (with_sheet s buffer ≡ after)

  refuses : (number : ℕ) → write_number s (length buffer) ≡ number → eqb number accepted ≡ false
      → Leaves (record { number = number; count = 0 }) buffer
  unfolding sheet_written with_sheet
  refuses number e refused = (simp (e, refused), simp (e, refused))

  writes : write_number s (length buffer) ≡ accepted
      → Leaves (record { number = 0; count = sheet_size s }) (sheet_text (entries_of s) ++ drop (sheet_size s) buffer)
  unfolding sheet_written with_sheet
  writes e = (simp e, simp e)

  -- a row that holds is the answer
  holds : {answer : Written} {after : List ℕ} → Row s buffer answer after → Leaves answer after
  holds (row6 spoilt) = refuses slot_not_in_order (number_6 s _ ((spoilt_is s).1 spoilt)) refl
  holds (row15 unspoilt none) = refuses none_listed (number_15 s _ ((unspoilt_is s).1 unspoilt) ((none_is s).1 none)) refl
  holds (row16 unspoilt some short) = refuses short_buffer (number_16 s _ ((unspoilt_is s).1 unspoilt) ((some_is s).1 some) short) refl
  holds (row0 unspoilt some fits) = writes (number_0 s _ ((unspoilt_is s).1 unspoilt) ((some_is s).1 some) fits)

  -- and some row holds
  is_row : {answer : Written} {after : List ℕ} → Row s buffer answer after → Row s buffer (sheet_written s (length buffer)) (with_sheet s buffer)
  is_row row = rw ((holds row).0, (holds row).1) row

  some_row : (a b c : Bool) → unspoilt_to s 32 ≡ a → eqb (length (entries_of s)) 0 ≡ b → ltb (length buffer) (sheet_size s) ≡ c
      → Row s buffer (sheet_written s (length buffer)) (with_sheet s buffer)
  some_row false b c p q r = is_row (row6 ((spoilt_is s).0 p))
  some_row true true c p q r = is_row (row15 ((unspoilt_is s).0 p) ((none_is s).0 q))
  some_row true false true p q r = is_row (row16 ((unspoilt_is s).0 p) ((some_is s).0 q) (ltb-true _ _ r))
  some_row true false false p q r = is_row (row0 ((unspoilt_is s).0 p) ((some_is s).0 q) (ltb-false _ _ r))

by_table : TableOf (λ s buffer. sheet_written s (length buffer)) with_sheet
by_table s buffer answer after = (
  λ h. rw (h.0, h.1) (some_row s buffer _ _ _ refl refl refl),
  λ row. (sym (holds s buffer row).0, sym (holds s buffer row).1),
)

pub proved : Promises
unfolding header_text field_text line_text digest_text lines_text sheet_text
proved =
    record {
      table = by_table;
      header = λ count. refl;
      line = λ e. refl;
      no_digits = refl;
      digits = λ byte bytes. refl;
      no_lines = refl;
      lines = λ e es. refl;
      sheet = λ es. refl;
    }
