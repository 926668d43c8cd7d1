-- Document 01's sheet follows the sheet rules, field by field. Assumes nothing.
use Prim.Native.Nat.{ℕ, zero, suc, ◌+◌, ◌*◌, ◌<◌, ◌≤◌}
use mathlib.Core.Path.{◌≡◌, refl, sym, ◌∙◌}
use mathlib.Core.List.{List, [], ◌∷◌, ◌++◌}
use mathlib.Core.Logic.{inl}
use mathlib.Core.Bool.{true}
use native.Mathlib.Omega.{arith}
use lib.ListN.{replicate}
use Rattle.hex_digits.specs.Digits.{IsDigit}
use Rattle.decimal.specs.Numbers.{figure, longer, IsNumber}
use Rattle.rules.specs.Rules.{count_rule, is_note, note_rule, length_rule, loop_rule}
use Rattle.rules.specs.Promises.{Obeyed}
use Rattle.hash.proofs.Proved.{proved as hash}
use Rattle.hash.specs.State.{fresh}
use Rattle.rules.specs.declared.Record.{Record}
use Rattle.lines.specs.declared.Entry.{Entry}
use Rattle.slots.specs.Slots.{slot_in_order}
use Rattle.slots.proofs.Proved.{proved as slot}
use Rattle.session.specs.Sessions.{slot_of}
use Rattle.session.specs.Operations.{ask}
use Rattle.session.specs.Promises.{Waits, ask_waiting}
use Rattle.session.proofs.Proved.{proved as session}
use Rattle.sheet.specs.Judging.{sheet_of}
use Rattle.sheet_promises.specs.Grammar.{Pairs, no_pair, pair, IsDigest, IsField, IsHeader, IsLine, line, no_line, entry, no_entry_lem, IsSheet}
use Rattle.sheet_promises.specs.Promises.{Among, first, Lists, freshly_waiting}
use Rattle.sheet_promises.proofs.Proved.{proved as sheet}
use Rattle.sheet_promises.specs.Faults.{here, breaks, loop}
use Rattle.sheet_promises.specs.Faults as faults
use Rattle.rejected.specs.Example.{zeros_and_end, header, line_of5, line_of9, text, printed_line_of5, printed_line_of9, printed_text, note5, note9, notes}

-- a number of one figure and of two, with the byte behind it
one_figure : (d ending : ℕ) → d < 10 → IsField ((0x30 + d) ∷ ending ∷ []) d ending
unfolding IsNumber
one_figure d ending small = record { number = (0x30 + d) ∷ []; is_number = (figure d small, omega arith); whole = refl }

two_figures : (c d ending : ℕ) → 1 ≤ c → c < 10 → d < 10 → IsField ((0x30 + c) ∷ (0x30 + d) ∷ ending ∷ []) (c * 10 + d) ending
unfolding IsNumber
two_figures c d ending some small least =
    record { number = (0x30 + c) ∷ (0x30 + d) ∷ []; is_number = (longer d (figure c small) some least, omega arith); whole = refl }

-- 64 zeros are 32 zero bytes
abbrev two_zeros : ℕ → List ℕ
two_zeros zero = []
two_zeros (suc n) = 0x30 ∷ 0x30 ∷ two_zeros n

zero_digit : IsDigit 0x30 0
unfolding IsDigit
zero_digit = inl (omega arith, refl)

zero_bytes : (n : ℕ) → Pairs (two_zeros n) (replicate n 0)
zero_bytes zero = no_pair
zero_bytes (suc n) = pair 0 0 zero_digit zero_digit (zero_bytes n)

zero_digest : IsDigest (replicate 64 0x30) (replicate 32 0)
unfolding IsDigest
zero_digest = (zero_bytes 32, refl)

is_header : IsHeader header 2
is_header = record { field = 0x32 ∷ 10 ∷ []; is_count = one_figure 2 10 (omega arith); whole = refl }

-- note 5, with a loop from 0 to thirty-and-some
line5_to : (ones : ℕ) → ones < 10
    → IsLine (0x35 ∷ 9 ∷ 0x36 ∷ 0x34 ∷ 9 ∷ 0x30 ∷ 9 ∷ 0x33 ∷ (0x30 + ones) ∷ 9 ∷ zeros_and_end)
    (record { note = 5; sample = record { length = 64; loop_start = 0; loop_end = 3 * 10 + ones; digest = replicate 32 0 } })
line5_to ones small =
    record {
      note = 0x35 ∷ 9 ∷ [];
      size = 0x36 ∷ 0x34 ∷ 9 ∷ [];
      start = 0x30 ∷ 9 ∷ [];
      end = 0x33 ∷ (0x30 + ones) ∷ 9 ∷ [];
      digest = replicate 64 0x30;
      is_note_lem = one_figure 5 9 (omega arith);
      is_length = two_figures 6 4 9 (omega arith) (omega arith) (omega arith);
      is_start = one_figure 0 9 (omega arith);
      is_end = two_figures 3 ones 9 (omega arith) (omega arith) small;
      is_digest = zero_digest;
      whole = refl;
    }

is_line9 : IsLine line_of9 note9
is_line9 =
    record {
      note = 0x39 ∷ 9 ∷ [];
      size = 0x36 ∷ 9 ∷ [];
      start = 0x30 ∷ 9 ∷ [];
      end = 0x32 ∷ 9 ∷ [];
      digest = replicate 64 0x30;
      is_note_lem = one_figure 9 9 (omega arith);
      is_length = one_figure 6 9 (omega arith);
      is_start = one_figure 0 9 (omega arith);
      is_end = one_figure 2 9 (omega arith);
      is_digest = zero_digest;
      whole = refl;
    }

pub is_sheet : IsSheet text notes
unfolding text count_rule note_rule is_note length_rule loop_rule
is_sheet =
    record {
      header = header;
      lines = line_of5 ++ (line_of9 ++ []);
      is_header = is_header;
      count_rule_lem = refl;
      are_lines = line (line5_to 1 (omega arith)) (line is_line9 no_line);
      obeyed =
          entry (record { note_rule_lem = refl; length_rule_lem = refl; loop_rule_lem = refl })
          (entry (record { note_rule_lem = refl; length_rule_lem = refl; loop_rule_lem = refl }) no_entry_lem);
      whole = refl;
    }

-- as 01 prints it, its first note breaks rule 4
pub printed_refused : (sheet_of printed_text).verdict ≡ record { number = 4; line = 2 }
unfolding count_rule note_rule is_note length_rule loop_rule
printed_refused =
    ((sheet.refuses printed_text 4 2).1
    (faults.notes header (printed_line_of5 ++ printed_line_of9) 2 is_header refl refl
    (here (breaks printed_line_of5 printed_line_of9 _ (line5_to 2 (omega arith)) refl (loop refl refl refl))))).0

pub lists : Lists (sheet_of text).session notes
lists = sheet.lists text notes is_sheet

-- a fresh slot whose record obeys the rules is in order
pub fresh_in_order : (r : Record) → Obeyed r → slot_in_order (record { sample = r; state = fresh; status = 1 }) ≡ true
unfolding fresh
fresh_in_order r o =
    let size = o.at_least in
    (slot.slots_in_order (record { sample = r; state = fresh; status = 1 })).1 (o, inl (refl, hash.fresh_state.1, omega arith))

-- each of its notes waits, and nothing has come
module _ (e : Entry) (among : Among e notes) (low : 1 ≤ e.note) (high : e.note ≤ 32) (obeys : Obeyed e.sample) where
  stands : slot_of (sheet_of text).session e.note ≡ freshly_waiting e.sample
  stands = lists.listed e among

  pub waits : Waits (sheet_of text).session e.note
  unfolding fresh
  waits = record { listed = (low, high, rw stands (λ z. omega arith)); in_order = rw stands (fresh_in_order e.sample obeys); waiting = rw stands }

  pub nothing_yet : (slot_of (sheet_of text).session e.note).state.total ≡ 0
  nothing_yet = rw stands

  pub asked : ask (sheet_of text).session e.note ≡ record { number = 0; status = 1; taken = 0 }
  asked = sym ((session.ask_table (sheet_of text).session e.note _).1 (ask_waiting waits)) ∙ rw nothing_yet

pub obeys5 : Obeyed note5.sample
obeys5 = record { even = refl; at_least = omega arith; at_most = omega arith; forward = omega arith; within = omega arith }

pub obeys9 : Obeyed note9.sample
obeys9 = record { even = refl; at_least = omega arith; at_most = omega arith; forward = omega arith; within = omega arith }

pub waits5 : Waits (sheet_of text).session 5
waits5 = waits note5 first (omega arith) (omega arith) obeys5
