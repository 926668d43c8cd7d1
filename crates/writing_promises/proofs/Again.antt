-- What is written is a sheet; reading it, and writing what was read. Assumes nothing.
use Prim.Native.Nat.{ℕ, ◌≤◌, ◌<◌}
use mathlib.Core.Path.{◌≡◌, refl, sym, ap, ◌∙◌, subst}
use mathlib.Core.Logic.{⊎_elim}
use mathlib.Core.List.{List, [], ◌++◌}
use mathlib.Core.Bool.{true}
use native.Mathlib.Omega.{arith}
use lib.ListN.{length, take, drop, replicate, length-replicate}
use lib.Seq.{take-append_seam}
use Rattle.refusal.specs.Table.{accepted, short_buffer, unlisted}
use Rattle.refusal.specs.declared.Written.{Written}
use Rattle.truth.proofs.Tests.{below_or_not, not_both}
use Rattle.rules.proofs.Proved.{proved as rules}
use Rattle.rules.specs.declared.Record.{Record}
use Rattle.lines.specs.declared.Entry.{Entry}
use Rattle.slots.specs.Slots.{slot_in_order}
use Rattle.slots.specs.declared.Answer.{Answer}
use Rattle.session.specs.Sessions.{slot_of}
use Rattle.session.specs.Operations.{Operation, ask}
use Rattle.session.specs.Promises.{Listed, Unlisted, AskRow, ask5, ask6, ask_waiting, ask_decided}
use Rattle.session.specs.declared.Session.{Session}
use Rattle.session.proofs.Listed.{listed_is, unlisted_is}
use Rattle.session.proofs.Proved.{proved as session}
use Rattle.sheet.specs.Judging.{sheet_of}
use Rattle.sheet_promises.specs.Grammar.{AllObey, IsSheet}
use Rattle.sheet_promises.specs.Promises.{Among, Lists}
use Rattle.sheet_promises.proofs.Proved.{proved as sheet}
use Rattle.promises.specs.Sequences.{after, accepted_bytes}
use Rattle.promises.specs.Demand3.{Promised, NotListed}
use Rattle.promises.proofs.Proved.{proved as promise}
use Rattle.writing.specs.Texts.{sheet_text}
use Rattle.writing.specs.Writing.{entries_of, sheet_written, with_sheet}
use Rattle.writing.specs.Promises.{Row, row6, row15, row16, row0, Unspoilt, SomeListed, sheet_size}
use Rattle.writing.proofs.Notes.{unspoilt_is}
use Rattle.writing.proofs.Proved.{proved as writing}
use Rattle.writing_promises.specs.Promises.{DigestsStored, Shows, WaitsAgain, written, WrittenAs}
use Rattle.writing_promises.proofs.Spelled.{sheet_spelled, lines_stored}
use Rattle.writing_promises.proofs.OneText.{one_text}
use Rattle.sheet_promises.proofs.Listing.{one_of, found}
use Rattle.writing_promises.proofs.Entries.{shows, obeys, one_list, count}

-- the sheet of a session that can be written
module _ (s : Session) (unspoilt : Unspoilt s) where
  entries_obey : AllObey 0 (entries_of s)
  entries_obey = obeys s ((unspoilt_is s).1 unspoilt)

  is_sheet : DigestsStored s → SomeListed s → IsSheet (sheet_text (entries_of s)) (entries_of s)
  is_sheet stored some =
      sheet_spelled (entries_of s) (count s some) entries_obey
      (λ e a. let there = (shows s).only e a in rw there.1 (stored e.note there.0))

  small : DigestsStored s → SomeListed s → sheet_size s ≤ 3233
  small stored some = sheet.size (sheet_text (entries_of s)) (entries_of s) (is_sheet stored some)

-- what the row that holds tells
module _ (s : Session) (buffer : List ℕ) where
  row_of : Row s buffer (sheet_written s (length buffer)) (with_sheet s buffer)
  row_of = (writing.table s buffer _ _).0 (refl, refl)

  accepting : {answer : Written} {left : List ℕ} → Row s buffer answer left → answer.number ≡ accepted
      → Unspoilt s × SomeListed s × (take answer.count left ≡ sheet_text (entries_of s))
  accepting (row6 spoilt) e = absurd (omega arith)
  accepting (row15 unspoilt none) e = absurd (omega arith)
  accepting (row16 unspoilt some short) e = absurd (omega arith)
  accepting (row0 unspoilt some fits) e = (unspoilt, some, take-append_seam (sheet_text (entries_of s)) _)

  short_of : {answer : Written} {left : List ℕ} → Row s buffer answer left → answer.number ≡ short_buffer
      → Unspoilt s × SomeListed s × (length buffer < sheet_size s)
  short_of (row6 spoilt) e = absurd (omega arith)
  short_of (row15 unspoilt none) e = absurd (omega arith)
  short_of (row16 unspoilt some short) e = (unspoilt, some, short)
  short_of (row0 unspoilt some fits) e = absurd (omega arith)

  counting : {answer : Written} {left : List ℕ} → Row s buffer answer left → DigestsStored s → answer.count ≤ 3233
  counting (row6 spoilt) stored = omega arith
  counting (row15 unspoilt none) stored = omega arith
  counting (row16 unspoilt some short) stored = omega arith
  counting (row0 unspoilt some fits) stored = small s unspoilt stored some

  -- so what is written is a sheet
  pub sheet_written_lem : DigestsStored s → (sheet_written s (length buffer)).number ≡ accepted → IsSheet (written s buffer) (entries_of s)
  sheet_written_lem stored e = let h = accepting row_of e in rw h.2 (is_sheet s h.0 stored h.1)

-- a buffer of some length
pub size : (s : Session) (room : ℕ) → DigestsStored s → (sheet_written s room).count ≤ 3233
size s room stored =
    let buffer : List ℕ = replicate room 0 in
    rw (length-replicate {A = ℕ} room 0) at (counting s buffer (row_of s buffer) stored)

pub long_enough : (s : Session) (room : ℕ) → DigestsStored s → 3233 ≤ room → (sheet_written s room).number ≡ short_buffer → ⊥
long_enough s room stored enough e =
    let buffer : List ℕ = replicate room 0 in
    let long : length buffer ≡ room = length-replicate {A = ℕ} room 0 in
    let h = short_of s buffer (row_of s buffer) (rw long e) in
    omega (arith, small s h.0 stored h.1)

-- a session that lists what another shows waits again
pub waits_again : (s t : Session) → Shows s (entries_of s) → Lists t (entries_of s) → WaitsAgain s t
waits_again s t shown lists =
    record {
      slots = lists.slots;
      listed = λ note l. lists.listed (record { note = note; sample = (slot_of s note).sample }) (shown.each note l);
      others = λ note low high e. lists.others note low high (λ d a same. (shown.only d a).0.2 (rw same e));
      notes = lists.notes;
      none_open = lists.none_open;
    }

pub reads_back : (s : Session) (buffer : List ℕ) → DigestsStored s → (sheet_written s (length buffer)).number ≡ accepted
    → ((sheet_of (written s buffer)).verdict ≡ record { number = 0; line = 0 }) × WaitsAgain s (sheet_of (written s buffer)).session
reads_back s buffer stored e =
    let text = written s buffer in
    let is = sheet_written_lem s buffer stored e in (
      sheet.from_start text ∙ (sheet.judges text 0).1 (entries_of s, is),
      waits_again s _ (shows s) (sheet.lists text (entries_of s) is),
    )

-- what asking tells of a slot
module _ (s : Session) (note : ℕ) where
  asked_accepted : {a : Answer} → AskRow s note a → a.number ≡ accepted → Listed s note × (slot_in_order (slot_of s note) ≡ true)
  asked_accepted (ask5 u) e = absurd (omega arith)
  asked_accepted (ask6 l o) e = absurd (omega arith)
  asked_accepted (ask_waiting w) e = (w.listed, w.in_order)
  asked_accepted (ask_decided d) e = (d.listed, d.in_order)

  asked_unlisted : {a : Answer} → AskRow s note a → a.number ≡ unlisted → Unlisted s note
  asked_unlisted (ask5 u) e = u
  asked_unlisted (ask6 l o) e = absurd (omega arith)
  asked_unlisted (ask_waiting w) e = absurd (omega arith)
  asked_unlisted (ask_decided d) e = absurd (omega arith)

  asked : AskRow s note (ask s note)
  asked = (session.ask_table s note (ask s note)).0 refl

  promised_accepted : {r : Record} {bytes : List ℕ} → Promised s note r bytes → (ask s note).number ≡ accepted
  promised_accepted {r} {bytes} p =
      ⊎_elim
      (λ below. ap (λ (a : Answer). a.number) (p.waits below))
      (λ full. ap (λ (a : Answer). a.number) (p.decides (let within = p.within in omega arith)))
      (below_or_not (length bytes) r.length)

  promised_listed : {r : Record} {bytes : List ℕ} → Promised s note r bytes → Listed s note × (slot_in_order (slot_of s note) ≡ true)
  promised_listed p = asked_accepted asked (promised_accepted p)

  never_listed : NotListed s note → Listed s note → ⊥
  never_listed n l =
      not_both _ ((unlisted_is s note).1 (asked_unlisted asked (ap (λ (a : Answer). a.number) n.asked))) ((listed_is s note).1 l)

-- the session of an accepted sheet, after any operations, shows the sheet's entries, each slot in order
module _ (text : List ℕ) (es : List Entry) (is : IsSheet text es) (operations : List Operation) where
  abbrev later : Session
  later = after (sheet_of text).session operations

  stands : (e : Entry) → Among e es → Promised later e.note e.sample (accepted_bytes e.note (sheet_of text).session operations)
  stands e a = promise.demand3.listed text es is e a operations

  -- each listed note is that of an entry
  entry_of : (note : ℕ) → Listed later note → (e : Entry) × Among e es × (e.note ≡ note)
  entry_of note l =
      ⊎_elim
      (λ f. f)
      (λ none. absurd (never_listed later note (promise.demand3.others text es is note none operations) l))
      (found note es)

  still_shows : Shows later es
  still_shows =
      record {
        each = λ note l. let f = entry_of note l in rw (← f.2, (stands f.0 f.1).keeps) f.1;
        only = λ e a. ((promised_listed later e.note (stands e a)).0, sym (stands e a).keeps);
      }

  pub still_unspoilt : Unspoilt later
  still_unspoilt note l = let f = entry_of note l in rw f.2 at (promised_listed later f.0.note (stands f.0 f.1)).1

  pub still_some : SomeListed later
  still_some =
      let e = one_of es ((rules.counts (length es)).0 is.count_rule_lem).0 in
      (e.0.note, (promised_listed later e.0.note (stands e.0 e.1)).0)

  same_entries : entries_of later ≡ es
  same_entries = one_list later (entries_of later) es (shows later) (entries_obey later still_unspoilt) still_shows is.obeyed

  pub same_text : sheet_text (entries_of later) ≡ text
  same_text =
      rw same_entries
      (one_text _ _ es (sheet_spelled es is.count_rule_lem is.obeyed (lines_stored is.lines es is.are_lines)) is)

  -- so it is written as that sheet
  pub same_row : (buffer : List ℕ) → length text ≤ length buffer
      → Row later buffer (record { number = 0; count = length text }) (text ++ drop (length text) buffer)
  same_row buffer fits =
      subst (λ (t : List ℕ). Row later buffer (record { number = 0; count = length t }) (t ++ drop (length t) buffer)) same_text
      (row0 still_unspoilt still_some (rw same_text fits))

  written_as : WrittenAs later text
  written_as buffer fits =
      let h = (writing.table later buffer _ _).1 (same_row buffer fits) in
      (sym h.0, sym h.1)

pub same_bytes_later : (text : List ℕ) (operations : List Operation) → (sheet_of text).verdict.number ≡ accepted
    → WrittenAs (after (sheet_of text).session operations) text
same_bytes_later text operations good = let s = (sheet.accepts text).0 good in written_as text s.0 s.1 operations

pub same_bytes : (text : List ℕ) → (sheet_of text).verdict.number ≡ accepted → WrittenAs (sheet_of text).session text
unfolding after
same_bytes text good = same_bytes_later text [] good
