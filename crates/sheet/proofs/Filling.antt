-- Note after note is listed. Assumes nothing.
use Rattle.lines.specs.declared.Field.{Field}
use Prim.Native.Nat.{ℕ, zero, suc, ◌+◌, ◌-◌, ◌%◌, ◌<◌, ◌≤◌}
use mathlib.Core.Path.{◌≡◌, refl, sym, ap, ◌∙◌}
use mathlib.Core.Logic.{⊎_elim}
use mathlib.Core.List.{List, [], ◌∷◌}
use mathlib.Core.Bool.{Bool, true, false, cond}
use native.Mathlib.Nat.{sub-zero}
use native.Mathlib.Omega.{arith}
use borrow.Author.Tests.{eqb-true, eqb-false}
use lib.Dec.{eqb}
use lib.ListN.{length, set, replicate}
use Rattle.truth.proofs.Tests.{either}
use Rattle.refusal.specs.Table.{accepted}
use Rattle.session.specs.Sessions.{empty_session, put_slot}
use Rattle.slots.specs.Slots.{empty_slot, waiting_slot}
use Rattle.slots.specs.declared.Slot.{Slot}
use Rattle.session.specs.declared.Session.{Session}
use Rattle.session.proofs.Putting.{index_lt}
use Rattle.sheet.specs.Judging.{header_at, header_number, verdict_at, judged, entries_at, with_notes, session_of, sheet_of}
use Rattle.sheet.specs.Filling.{start, listing, with_listed}
use Rattle.lines.specs.declared.Entry.{Entry}
use Rattle.sheet.specs.declared.Verdict.{Verdict}
use Rattle.sheet.specs.declared.Start.{Start}
use Rattle.sheet.specs.declared.Listing.{Listing}
use Rattle.sheet.proofs.Verdicts.{most_notes, header_decides}

-- the session with a slot at an index, as the code puts it
abbrev pub with_slot : Session → (index : ℕ) → Slot → Session
with_slot s index slot = record { slots = set s.slots index slot; listed = s.listed; opened = s.opened }

-- the line at a place, listed before the others
module _ (text : List ℕ) (at : ℕ) (r : Listing) (e : r ≡ listing text at) where
  pub lists_next : (s : Session) (notes : ℕ)
      → with_notes s (entries_at (suc notes) text at) ≡ with_notes (with_slot s r.index r.slot) (entries_at notes text r.next)
  unfolding with_notes entries_at listing put_slot
  lists_next s notes = rw e

  pub listing_lt : r.index < 32
  unfolding listing
  listing_lt = rw e (index_lt _)

  -- one more line of those that are left
  pub lists_one : (s : Session) (notes i : ℕ) → i < notes
      → with_notes s (entries_at (notes - i) text at)
      ≡ with_notes (with_slot s r.index r.slot) (entries_at (notes - (i + 1)) text r.next)
  lists_one s notes i more =
      let left : notes - i ≡ suc (notes - (i + 1)) = omega arith in
      rw left (lists_next s (notes - (i + 1)))

pub lists_none : (s : Session) (text : List ℕ) (at : ℕ) → with_notes s (entries_at 0 text at) ≡ s
unfolding with_notes entries_at
lists_none s text at = refl

-- slots that are not yet in their session
abbrev pub of_slots : List Slot → Session
of_slots slots = record { slots = slots; listed = 0; opened = 0 }

-- none is listed yet
pub lists_first : (text : List ℕ) (notes at : ℕ) (none : Slot) → none ≡ empty_slot
    → with_notes empty_session (entries_at notes text at) ≡ with_notes (of_slots (replicate 32 none)) (entries_at (notes - 0) text at)
unfolding empty_session
lists_first text notes at none e = rw (e, sub-zero notes)

-- none is left, and the count is set
pub lists_all : (text : List ℕ) (notes i from at listed : ℕ) (slots : List Slot) → notes ≤ i
    → with_notes empty_session (entries_at notes text from) ≡ with_notes (of_slots slots) (entries_at (notes - i) text at)
    → record { slots = slots; listed = listed; opened = 0 } ≡ with_listed (with_notes empty_session (entries_at notes text from)) listed
lists_all text notes i from at listed slots done e =
    let none : notes - i ≡ 0 = omega arith in
    rw (e, none) (ap (λ (s : Session). with_listed s listed) (sym (lists_none (of_slots slots) text at)))

pub ruleset listing_steps = (listing_lt, lists_one)

-- there are as many entries as are read, and listing them touches no count
pub as_many_entries : (notes : ℕ) (text : List ℕ) (at : ℕ) → length (entries_at notes text at) ≡ notes
unfolding entries_at
as_many_entries zero text at = refl
as_many_entries (suc notes) text at = ap suc (as_many_entries notes text _)

pub counts_kept : (s : Session) (es : List Entry) → ((with_notes s es).listed ≡ s.listed) × ((with_notes s es).opened ≡ s.opened)
unfolding with_notes put_slot
counts_kept s [] = (refl, refl)
counts_kept s (e ∷ es) = counts_kept (put_slot s e.note (waiting_slot e.sample)) es

-- an accepted sheet has a count that is a byte
few_notes : (text : List ℕ) (number : ℕ) → number ≡ header_number (header_at text 0) → eqb (judged text 0).number accepted ≡ true → (header_at text 0).value ≤ 32
unfolding verdict_at
few_notes text number is good =
    ⊎_elim
    (λ h. most_notes (header_at text 0) number is (eqb-true number accepted h))
    (λ h.
    let bad : number ≡ (judged text 0).number = ap (λ (v : Verdict). v.number) (header_decides text 0 _ _ refl is (eqb-false number accepted h)) in
    absurd (eqb-false number accepted h (bad ∙ eqb-true _ _ good)))
    (either (eqb number accepted))

-- a sheet's session lists its lines' notes, or none where it is refused
by_verdict : (text : List ℕ) (b : Bool) → eqb (judged text 0).number accepted ≡ b
    → with_listed (with_notes empty_session (entries_at (cond b (header_at text 0).value 0) text (header_at text 0).stop.at)) (cond b (header_at text 0).value 0 % 256)
    ≡ cond b (session_of text) empty_session
unfolding session_of empty_session
by_verdict text true good =
    let few = few_notes text _ refl good in
    let byte : (header_at text 0).value % 256 ≡ (header_at text 0).value = omega arith in
    rw (byte, as_many_entries (header_at text 0).value text (header_at text 0).stop.at, (counts_kept empty_session (entries_at (header_at text 0).value text (header_at text 0).stop.at)).1)
by_verdict text false bad = ap (λ (s : Session). with_listed s 0) (lists_none empty_session text _)

pub sheet_session : (text : List ℕ) (v : Verdict) (h : Field) (from : Start) (s : Session) → v ≡ judged text 0 → h ≡ header_at text 0 → from ≡ start h v
    → s ≡ with_listed (with_notes empty_session (entries_at from.notes text from.at)) from.listed → record { verdict = v; session = s } ≡ sheet_of text
unfolding sheet_of start
sheet_session text v h from s ev eh ef es =
    let session : s ≡ cond (eqb v.number accepted) (session_of text) empty_session =
    es ∙ rw (ef, eh, ev) (by_verdict text (eqb (judged text 0).number accepted) refl) in
    rw (session, ev)
