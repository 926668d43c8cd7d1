-- What the sheet's writer promises, by the grammar: document 02, 1/13.
use Rattle.std.specs.Prelude.{ℕ, ◌≤◌, ◌<◌, ◌≡◌, ◌↔◌, List, ◌++◌, length, get_or, take, drop, true}
use Rattle.refusal.specs.Table.{accepted, short_buffer}
use Rattle.rules.specs.Rules.{count_rule}
use Rattle.lines.specs.declared.Entry.{Entry}
use Rattle.session.specs.Sessions.{slot_of}
use Rattle.session.specs.Operations.{Operation}
use Rattle.session.specs.Promises.{Listed}
use Rattle.session.specs.declared.Session.{Session}
use Rattle.sheet.specs.Judging.{sheet_of}
use Rattle.sheet_promises.specs.Grammar.{IsDigest, IsHeader, IsLine, AllObey, IsSheet}
use Rattle.sheet_promises.specs.Promises.{Among, freshly_waiting, not_listed}
use Rattle.promises.specs.Sequences.{after}
use Rattle.rejected.specs.Example.{text as example_text, notes as example_notes}
use Rattle.writing.specs.Texts.{digest_text, header_text, line_text, sheet_text}
use Rattle.writing.specs.Promises.{TableOf}
use Rattle.writing.specs.Writing.{entries_of, sheet_written, with_sheet}
use Rattle.writing_promises.specs.Wrong.{Answering, Leaving, RefusesAll, AcceptsAll, WritesOnly, IgnoresSession, IgnoresRoom}
use Rattle.writing_promises.specs.Wrong.{ChangesRefused, ClearsBehind}

-- A digest as code stores it: 32 bytes, each below 256. A list of the logic may be anything; what is lent to a call is so by its type
-- (`lent_digests` of the crate `coincide`).
pub record StoredDigest (digest : List ℕ) : Type 0 where
  pub long : length digest ≡ 32
  pub bytes : (i : ℕ) → i < 32 → get_or digest i 0 < 256

-- an entry as code stores it, whatever the rules say of it
pub record StoredEntry (e : Entry) : Type 0 where
  pub note : e.note ≤ 4294967295
  pub size : e.sample.length ≤ 4294967295
  pub start : e.sample.loop_start ≤ 4294967295
  pub end : e.sample.loop_end ≤ 4294967295
  pub digest : StoredDigest e.sample.digest

-- the digests of the listed notes are
abbrev pub DigestsStored : Session → Type 0
DigestsStored s = (note : ℕ) → Listed s note → StoredDigest (slot_of s note).sample.digest

-- entries of exactly the listed notes, each with its slot's record
pub record Shows (s : Session) (es : List Entry) : Type 0 where
  pub each : (note : ℕ) → Listed s note → Among (record { note = note; sample = (slot_of s note).sample }) es
  pub only : (e : Entry) → Among e es → Listed s e.note × (e.sample ≡ (slot_of s e.note).sample)

-- "the same listed records with every note waiting and nothing taken", and every other slot empty
pub record WaitsAgain (s t : Session) : Type 0 where
  pub slots : length t.slots ≡ 32
  pub listed : (note : ℕ) → Listed s note → slot_of t note ≡ freshly_waiting (slot_of s note).sample
  pub others : (note : ℕ) → 1 ≤ note → note ≤ 32 → (slot_of s note).status ≡ 0 → slot_of t note ≡ not_listed
  -- 3/13: its counts are of the notes that were written, whatever the other session carried
  pub notes : t.listed ≡ length (entries_of s)
  pub none_open : t.opened ≡ 0

-- the bytes that are written
abbrev pub written : Session → (buffer : List ℕ) → List ℕ
written s buffer = take (sheet_written s (length buffer)).count (with_sheet s buffer)

-- a session is written as this text, into any buffer that has room for it
abbrev pub WrittenAs : Session → (text : List ℕ) → Type 0
WrittenAs s text =
    (buffer : List ℕ) → length text ≤ length buffer
    → (sheet_written s (length buffer) ≡ record { number = 0; count = length text })
    × (with_sheet s buffer ≡ text ++ drop (length text) buffer)

pub record Promises : Type 0 where
  -- Of the grammar: a digest is read as one lot of bytes, and they have one spelling,
  pub one_bytes : (text bytes others : List ℕ) → IsDigest text bytes → IsDigest text others → bytes ≡ others
  pub one_digest : (text other bytes : List ℕ) → IsDigest text bytes → IsDigest other bytes → text ≡ other
  -- so a sheet's text and its entries are one to one
  pub one_to_one :
      (text other : List ℕ) (es others : List Entry) → IsSheet text es → IsSheet other others → (text ≡ other) ↔ (es ≡ others)
  -- Of what is written: a digest, line 1, a note's line whether or not it obeys the rules, and a sheet of notes that do
  pub digest : (bytes : List ℕ) → StoredDigest bytes → IsDigest (digest_text bytes) bytes
  pub header : (count : ℕ) → count ≤ 4294967295 → IsHeader (header_text count) count
  pub line : (e : Entry) → StoredEntry e → IsLine (line_text e) e
  pub sheet :
      (es : List Entry) → count_rule (length es) ≡ true → AllObey 0 es
      → ((e : Entry) → Among e es → StoredDigest e.sample.digest)
      → IsSheet (sheet_text es) es
  -- the three-line sheet of document 01, with 2/13's loops, is written of its two notes
  pub example : sheet_text example_notes ≡ example_text
  -- "Write the sheet of a session": what is written is a sheet, of exactly the listed notes with their records,
  pub is_sheet :
      (s : Session) (buffer : List ℕ) → DigestsStored s → (sheet_written s (length buffer)).number ≡ accepted
      → IsSheet (written s buffer) (entries_of s)
  pub shows : (s : Session) → Shows s (entries_of s)
  -- rising and obeying the rules, so there is one such list
  pub one_list : (s : Session) (es others : List Entry) → Shows s es → AllObey 0 es → Shows s others → AllObey 0 others → es ≡ others
  -- at most 3,233 bytes, so a buffer of that many is never too short
  pub size : (s : Session) (room : ℕ) → DigestsStored s → (sheet_written s room).count ≤ 3233
  pub long_enough : (s : Session) (room : ℕ) → DigestsStored s → 3233 ≤ room → (sheet_written s room).number ≡ short_buffer → ⊥
  -- "Reading what was written gives the same listed records with every note waiting and nothing taken"; line 0
  pub reads_back :
      (s : Session) (buffer : List ℕ) → DigestsStored s → (sheet_written s (length buffer)).number ≡ accepted
      → ((sheet_of (written s buffer)).verdict ≡ record { number = 0; line = 0 }) × WaitsAgain s (sheet_of (written s buffer)).session
  -- "writing what was read from an accepted sheet gives the same bytes",
  pub same_bytes : (text : List ℕ) → (sheet_of text).verdict.number ≡ accepted → WrittenAs (sheet_of text).session text
  -- whatever has been delivered since
  pub same_bytes_later :
      (text : List ℕ) (operations : List Operation) → (sheet_of text).verdict.number ≡ accepted
      → WrittenAs (after (sheet_of text).session operations) text
  -- Rejected, as document 01's list is: each of these breaks the table for writing
  pub refuses_all : (answering : Answering) (leaving : Leaving) → RefusesAll answering → TableOf answering leaving → ⊥
  pub accepts_all : (answering : Answering) (leaving : Leaving) → AcceptsAll answering → TableOf answering leaving → ⊥
  pub writes_only :
      (text : List ℕ) (answering : Answering) (leaving : Leaving) → WritesOnly text answering leaving → TableOf answering leaving → ⊥
  pub ignores_session : (answering : Answering) (leaving : Leaving) → IgnoresSession answering → TableOf answering leaving → ⊥
  pub ignores_room : (answering : Answering) (leaving : Leaving) → IgnoresRoom answering → TableOf answering leaving → ⊥
  pub changes_refused : (answering : Answering) (leaving : Leaving) → ChangesRefused answering leaving → TableOf answering leaving → ⊥
  pub clears_behind : (answering : Answering) (leaving : Leaving) → ClearsBehind answering leaving → TableOf answering leaving → ⊥
