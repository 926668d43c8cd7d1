-- The table's numbers, spelled out: document 01, "Refusal numbers", and document 02.
use Rattle.std.specs.Prelude.{ℕ, ◌≡◌, List, [], ◌∷◌, Result, Ok, Err, ⊤}
use Rattle.refusal.specs.declared.Refusal.{Refusal}
use Rattle.refusal.specs.Table.{accepted, form, count_or_note, bad_length, bad_loop, unlisted, slot_not_in_order, decided, past_length}
use Rattle.refusal.specs.Table.{state_not_in_order, too_long, wrong_size, no_such_block, other_tail, not_padded}
use Rattle.refusal.specs.Table.{none_listed, short_buffer, no_mac_line, other_code, no_word, no_number, no_separator, no_digit, text_after}
use Rattle.refusal.specs.Table.{no_such_page, other_path_length, short_path_buffer, too_deep, other_page_size, other_groups, refused_by, wrote}
use Rattle.refusal.specs.Table.{number_by, number_of, written_of}

-- the rows' names, in the table's order
abbrev pub rows : List ℕ
rows =
    form ∷ count_or_note ∷ bad_length ∷ bad_loop ∷ unlisted ∷ slot_not_in_order ∷ decided ∷ past_length
    ∷ state_not_in_order ∷ too_long ∷ wrong_size ∷ no_such_block ∷ other_tail ∷ not_padded ∷ []

-- those of document 02, in the order of their numbers
abbrev pub later_rows : List ℕ
later_rows =
    none_listed ∷ short_buffer ∷ no_mac_line ∷ other_code ∷ no_word ∷ no_number ∷ no_separator ∷ no_digit ∷ text_after
    ∷ no_such_page ∷ other_path_length ∷ short_path_buffer ∷ too_deep ∷ other_page_size ∷ other_groups ∷ []

pub record Promises : Type 0 where
  -- "Number 0 is an accepted call"
  pub none : accepted ≡ 0
  -- the first column of the table
  pub numbers : rows ≡ 1 ∷ 2 ∷ 3 ∷ 4 ∷ 5 ∷ 6 ∷ 7 ∷ 8 ∷ 9 ∷ 10 ∷ 11 ∷ 12 ∷ 13 ∷ 14 ∷ []
  pub later_numbers : later_rows ≡ 15 ∷ 16 ∷ 17 ∷ 18 ∷ 19 ∷ 20 ∷ 21 ∷ 22 ∷ 23 ∷ 24 ∷ 25 ∷ 26 ∷ 27 ∷ 28 ∷ 29 ∷ []
  -- "padding count 0", and the count of what was written
  pub counts :
      (number size : ℕ)
      → (refused_by number ≡ record { number = number; count = 0 }) × (wrote size ≡ record { number = 0; count = size })
  -- each refusal has a number of its own, and none has that of an accepted call
  pub one_number : (r s : Refusal) → number_by r ≡ number_by s → r ≡ s
  pub not_accepted : (r : Refusal) → number_by r ≡ accepted → ⊥
  -- the number that a call answers: 0 where it is accepted, else the refusal's
  pub number_told : (r : Refusal) → (number_of {T = ⊤} (Ok tt) ≡ 0) × (number_of {T = ⊤} (Err r) ≡ number_by r)
  -- so a number tells what a call answered that answers nothing else
  pub numbered : (x y : Result ⊤ Refusal) → number_of x ≡ number_of y → x ≡ y
  -- and a C host is told all that a call answered which writes
  pub written_as : (size : ℕ) (r : Refusal) → (written_of (Ok size) ≡ wrote size) × (written_of (Err r) ≡ refused_by (number_by r))
  pub told : (x y : Result ℕ Refusal) → written_of x ≡ written_of y → x ≡ y
