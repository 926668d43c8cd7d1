-- The entries of a session: exactly its listed notes, rising, and as many as a sheet may have. Assumes nothing.
use Prim.Native.Nat.{ℕ, zero, suc, ◌≤◌, ◌<◌}
use mathlib.Core.Path.{◌≡◌, refl}
use mathlib.Core.Logic.{⊎_elim}
use mathlib.Core.List.{List, append-nil}
use mathlib.Core.Bool.{true}
use native.Mathlib.Omega.{arith}
use borrow.Author.Tests.{eqb-true, eqb-false}
use lib.Dec.{eqb}
use lib.ListN.{length}
use Rattle.truth.proofs.Tests.{either}
use Rattle.rules.specs.Rules.{count_rule}
use Rattle.rules.proofs.Proved.{proved as rules}
use Rattle.lines.specs.declared.Entry.{Entry}
use Rattle.slots.specs.Slots.{none, slot_in_order}
use Rattle.slots.specs.declared.Slot.{Slot}
use Rattle.slots.proofs.Proved.{proved as slots}
use Rattle.session.specs.Sessions.{slot_of}
use Rattle.session.specs.declared.Session.{Session}
use Rattle.sheet_promises.specs.Grammar.{ObeysRules, AllObey, no_entry_lem}
use Rattle.sheet_promises.specs.Promises.{Among, first}
use Rattle.promises.proofs.Proved.{proved as promise}
use Rattle.writing.specs.Writing.{entry_of, entries_to, entries_of, unspoilt_to}
use Rattle.writing.specs.Promises.{SomeListed}
use Rattle.writing.proofs.Notes.{ListedTo, last_or_before, longer, last, entry_listed, entry_unlisted, counted_listed, counted_unlisted, sound_then}
use Rattle.writing_promises.specs.Promises.{Shows}
use Rattle.writing_promises.proofs.Members.{some, not_in_none, the_one, in_front, behind, front_or_behind, one_more, same_list}

-- what is said of one note
module _ (note : ℕ) (slot : Slot) where
  abbrev said : Entry
  said = record { note = note; sample = slot.sample }

  is_said : (slot.status ≡ 0 → ⊥) → Among said (entry_of note slot)
  is_said listed = rw (entry_listed note slot listed) first

  only_said : (e : Entry) → Among e (entry_of note slot) → (slot.status ≡ 0 → ⊥) × (e ≡ said)
  only_said e a =
      ⊎_elim
      (λ u. absurd (not_in_none (rw (entry_unlisted note slot (eqb-true _ _ u)) at a)))
      (λ l. let listed = eqb-false _ _ l in (listed, the_one (rw (entry_listed note slot listed) at a)))
      (either (eqb slot.status none))

-- the entries of the notes 1 to n are those of the listed ones
each_to : (s : Session) (n note : ℕ) → ListedTo s n note → Among (said note (slot_of s note)) (entries_to s n)
unfolding entries_to
each_to s zero note (low, high, listed) = absurd (omega arith)
each_to s (suc n) note l =
    ⊎_elim
    (λ e. behind (entries_to s n) (rw (← e) (is_said note (slot_of s note) l.2)))
    (λ before. in_front _ (each_to s n note before))
    (last_or_before s n note l)

only_to : (s : Session) (n : ℕ) (e : Entry) → Among e (entries_to s n) → ListedTo s n e.note × (e.sample ≡ (slot_of s e.note).sample)
unfolding entries_to
only_to s zero e a = absurd (not_in_none a)
only_to s (suc n) e a =
    ⊎_elim
    (λ b. let before = only_to s n e b in (longer s n e.note before.0, before.1))
    (λ b. let here = only_said (suc n) (slot_of s (suc n)) e b in rw here.1 (last s n here.0, refl))
    (front_or_behind (entries_to s n) a)

pub shows : (s : Session) → Shows s (entries_of s)
unfolding entries_of
shows s = record { each = each_to s 32; only = only_to s 32 }

-- a listed slot in order obeys rules 3 and 4, and its note rule 2
said_obeys : (before note : ℕ) (slot : Slot) → before < note → note ≤ 32 → slot_in_order slot ≡ true → ObeysRules before (said note slot)
said_obeys before note slot above high ordered =
    (promise.loops.one_rule before (said note slot)).1
    ((rules.notes before note).1 (omega arith, high, above), ((slots.slots_in_order slot).0 ordered).0)

obeys_to : (s : Session) (n : ℕ) → n ≤ 32 → ((note : ℕ) → ListedTo s n note → slot_in_order (slot_of s note) ≡ true)
    → AllObey 0 (entries_to s n)
unfolding entries_to
obeys_to s zero few ordered = no_entry_lem
obeys_to s (suc n) few ordered =
    let before = obeys_to s n (omega arith) (λ note l. ordered note (longer s n note l)) in
    let slot = slot_of s (suc n) in
    ⊎_elim
    (λ u. rw (entry_unlisted (suc n) slot (eqb-true _ _ u), append-nil) before)
    (λ l.
    let listed = eqb-false _ _ l in
    rw (entry_listed (suc n) slot listed)
    (one_more 0 (entries_to s n) (said (suc n) slot) before (omega arith)
    (λ e a. let there = (only_to s n e a).0 in omega arith)
    (λ m below. said_obeys m (suc n) slot below few (ordered (suc n) (last s n listed)))))
    (either (eqb slot.status none))

pub obeys : (s : Session) → unspoilt_to s 32 ≡ true → AllObey 0 (entries_of s)
unfolding entries_of
obeys s unspoilt = obeys_to s 32 (omega arith) (sound_then s 32 unspoilt)

-- two rising lists that show one session are one
shown_in : (s : Session) (es others : List Entry) → Shows s es → Shows s others → (e : Entry) → Among e es → Among e others
shown_in s es others shown shown' e a =
    let there = shown.only e a in
    rw (← there.1) at (shown'.each e.note there.0)

pub one_list : (s : Session) (es others : List Entry) → Shows s es → AllObey 0 es → Shows s others → AllObey 0 others → es ≡ others
one_list s es others shown os shown' ps =
    same_list 0 0 es others os ps (shown_in s es others shown shown') (shown_in s others es shown' shown)

-- at most one a note
at_most : (s : Session) (n : ℕ) → length (entries_to s n) ≤ n
unfolding entries_to
at_most s zero = omega arith
at_most s (suc n) =
    let before = at_most s n in
    ⊎_elim
    (λ u. let same = counted_unlisted s n (eqb-true _ _ u) in omega arith)
    (λ l. let more = counted_listed s n (eqb-false _ _ l) in omega arith)
    (either (eqb (slot_of s (suc n)).status none))

pub count : (s : Session) → SomeListed s → count_rule (length (entries_of s)) ≡ true
unfolding entries_of
count s (note, listed) = (rules.counts (length (entries_of s))).1 (some (each_to s 32 note listed), at_most s 32)
