-- What the reader promises of every text: document 01, "The rank sheet".
use Rattle.std.specs.Prelude.{ℕ, ◌+◌, ◌*◌, ◌<◌, ◌≤◌, ◌≡◌, ◌↔◌, List, [], ◌∷◌, ◌++◌, length, get_or, drop, replicate}
use Rattle.refusal.specs.Table.{accepted, form}
use Rattle.standard.specs.Standard.{IV}
use Rattle.session.specs.Sessions.{slot_of}
use Rattle.session.specs.declared.Session.{Session}
use Rattle.slots.specs.declared.Slot.{Slot}
use Rattle.hex_digits.specs.Digits.{IsDigit}
use Rattle.sheet.specs.Judging.{header_at, judged, entries_at, sheet_of}
use Rattle.sheet.specs.declared.Sheet.{Sheet}
use Rattle.sheet.specs.declared.Verdict.{Verdict}
use Rattle.lines.specs.Lines.{note_line}
use Rattle.lines.specs.declared.Entry.{Entry}
use Rattle.rules.specs.declared.Record.{Record}
use Rattle.sheet_promises.specs.Grammar.{IsDigest, IsHeader, IsLine, Lines, IsSheet}
use Rattle.sheet_promises.specs.Faults.{Refused}

-- an entry is one of a sheet's
pub data Among (e : Entry) : List Entry → Type 0 where
  first : {es : List Entry} → Among e (e ∷ es)
  further : {d : Entry} {es : List Entry} → Among e es → Among e (d ∷ es)

-- "waiting, with its own line's record and a fresh state", written out
abbrev pub freshly_waiting : Record → Slot
freshly_waiting r = record { sample = r; state = record { words = IV; total = 0; tail = replicate 64 0 }; status = 1 }

-- "record zero and a fresh state", unlisted, written out
abbrev pub not_listed : Slot
not_listed =
    record {
      sample = record { length = 0; loop_start = 0; loop_end = 0; digest = replicate 32 0 };
      state = record { words = IV; total = 0; tail = replicate 64 0 };
      status = 0;
    }

-- "An accepted sheet's session lists exactly the notes of its lines, each waiting, with its own line's record and a fresh state."; with no
-- entries it is the "session with no note listed"
pub record Lists (s : Session) (es : List Entry) : Type 0 where
  pub slots : length s.slots ≡ 32
  pub listed : (e : Entry) → Among e es → slot_of s e.note ≡ freshly_waiting e.sample
  -- "the sheet reader gives such a slot record zero and a fresh state"
  pub others : (note : ℕ) → 1 ≤ note → note ≤ 32 → ((e : Entry) → Among e es → e.note ≡ note → ⊥) → slot_of s note ≡ not_listed
  -- 3/13: "Let the session carry how many notes are listed and how many are open"
  pub notes : s.listed ≡ length es
  pub none_open : s.opened ≡ 0

-- byte i is that of two digits
abbrev pub TwoDigits : (text bytes : List ℕ) (i : ℕ) → Type 0
TwoDigits text bytes i =
    (high : ℕ) × (low : ℕ)
    × IsDigit (get_or text (2 * i) 0) high
    × IsDigit (get_or text (2 * i + 1) 0) low
    × (get_or bytes i 0 ≡ high * 16 + low)

-- accepted exactly when the text is a sheet: of any reader
abbrev pub AcceptsOf : (read : List ℕ → Sheet) → Type 0
AcceptsOf read = (text : List ℕ) → ((read text).verdict.number ≡ accepted) ↔ ((es : List Entry) × IsSheet text es)

-- what reading a text answers and leaves: a sheet is accepted and its notes are listed; another text is refused by its first bad line, and
-- no note is listed. That the readers' contracts are these rows is in the crate `coincide`
pub data SheetRow (text : List ℕ) : (verdict : Verdict) (session : Session) → Type 0 where
  is_read : {s : Session} (es : List Entry) → IsSheet text es → Lists s es → SheetRow text (record { number = 0; line = 0 }) s
  is_refused :
      {s : Session} (number line : ℕ) → Refused text number line → Lists s []
      → SheetRow text (record { number = number; line = line }) s

pub record Promises : Type 0 where
  -- demand 2: "A sheet is accepted exactly when it follows the sheet rules."
  pub accepts : AcceptsOf sheet_of
  -- "an accepted sheet's line is 0"
  pub line : (text : List ℕ) → (sheet_of text).verdict.number ≡ accepted → (sheet_of text).verdict.line ≡ 0
  pub lists : (text : List ℕ) (es : List Entry) → IsSheet text es → Lists (sheet_of text).session es
  -- and no other session does
  pub one_session : (s t : Session) (es : List Entry) → Lists s es → Lists t es → s ≡ t
  -- refused exactly by the first bad line: its number and its line
  pub refuses :
      (text : List ℕ) (number line : ℕ)
      → (((sheet_of text).verdict ≡ record { number = number; line = line }) × (number ≡ accepted → ⊥)) ↔ Refused text number line
  -- "Text after the n notes is a form fault at line n + 2"
  pub text_follows :
      (text : List ℕ) (es : List Entry) → IsSheet text es → (byte : ℕ) (rest : List ℕ)
      → (sheet_of (text ++ (byte ∷ rest))).verdict ≡ record { number = form; line = length es + 2 }
  -- "session with no note listed"; 3/13: "A refused sheet has both 0"
  pub refused : (text : List ℕ) → ((sheet_of text).verdict.number ≡ accepted → ⊥) → Lists (sheet_of text).session []
  -- "a valid sheet has at most 3,233" bytes
  pub size : (text : List ℕ) (es : List Entry) → IsSheet text es → length text ≤ 3233
  -- the same of the sheet that begins at a place of a text, where a reader stands
  pub from_start : (text : List ℕ) → (sheet_of text).verdict ≡ judged text 0
  pub judges :
      (text : List ℕ) (at : ℕ)
      → (judged text at ≡ record { number = 0; line = 0 }) ↔ ((es : List Entry) × IsSheet (drop at text) es)
  pub judges_bad :
      (text : List ℕ) (at number line : ℕ)
      → ((judged text at ≡ record { number = number; line = line }) × (number ≡ accepted → ⊥)) ↔ Refused (drop at text) number line
  -- a header and a line that stand at a place are read, and the next place is the one behind them
  pub reads_header :
      (text front rest : List ℕ) (at count : ℕ) → IsHeader front count → drop at text ≡ front ++ rest
      → header_at text at ≡ record { stop = record { wanted = 0; at = at + length front }; value = count }
  pub reads_line :
      (text front rest : List ℕ) (at : ℕ) (e : Entry) → IsLine front e → drop at text ≡ front ++ rest
      → note_line text at ≡ record { stop = record { wanted = 0; at = at + length front }; entry = e }
  -- a sheet's entries are those that the reader's steps read, line by line (`sheet.of_filling`, `lines.line_good`)
  pub entries :
      (text : List ℕ) (es : List Entry) → IsSheet text es
      → es ≡ entries_at (header_at text 0).value text (header_at text 0).stop.at
  -- a sheet's lines are what they are
  pub one_reading : (text : List ℕ) (es others : List Entry) → IsSheet text es → IsSheet text others → es ≡ others
  -- the words of the grammar, spelled out: "A digest is 64 characters", two digits a byte; a sheet is line 1 and the lines behind it
  pub is_digest :
      (text bytes : List ℕ)
      → IsDigest text bytes ↔ ((length text ≡ 64) × (length bytes ≡ 32) × ((i : ℕ) → i < 32 → TwoDigits text bytes i))
  pub parts :
      (text : List ℕ) (es : List Entry) (s : IsSheet text es)
      → IsHeader s.header (length es) × Lines s.lines es × (text ≡ s.header ++ s.lines)
