-- One slot more: a line where its note is listed, nothing where it is not. Assumes nothing.
use Prim.Native.Nat.{ℕ, zero, suc, ◌+◌, ◌-◌, ◌<◌, ◌≤◌}
use mathlib.Core.Path.{◌≡◌, refl, sym, ap, ◌∙◌}
use mathlib.Core.List.{List, [], ◌∷◌, ◌++◌, append_assoc, append-nil}
use mathlib.Core.Logic.{⊎_elim}
use native.Mathlib.Omega.{arith}
use native.Mathlib.Numerals.{add-one}
use lib.ListN.{length, get_or, length-append}
use Rattle.std.proofs.lemmas.List.{get_or_past}
use Rattle.truth.proofs.Tests.{below_or_not}
use Rattle.lines.specs.declared.Entry.{Entry}
use Rattle.slots.specs.Slots.{empty_slot}
use Rattle.slots.specs.declared.Slot.{Slot}
use Rattle.session.specs.Sessions.{slot_of}
use Rattle.session.specs.declared.Session.{Session}
use Rattle.session.proofs.Lists.{getD_within}
use Rattle.session.proofs.Proved.{proved as session}
use Rattle.writing.specs.Texts.{line_text, lines_text}
use Rattle.writing.specs.Writing.{entry_of, entries_to, unspoilt}
use Rattle.writing.proofs.Notes.{entry_unlisted}

-- lines behind lines
lines_join : (es fs : List Entry) → lines_text (es ++ fs) ≡ lines_text es ++ lines_text fs
unfolding lines_text
lines_join [] fs = refl
lines_join (e ∷ es) fs = rw (lines_join es fs) (sym (append_assoc (line_text e) (lines_text es) (lines_text fs)))

one_line : (e : Entry) → lines_text (e ∷ []) ≡ line_text e
unfolding lines_text
one_line e = append-nil (line_text e)

-- fewer notes have no longer lines
pub lines_within : (s : Session) (i n : ℕ) → i ≤ n → length (lines_text (entries_to s i)) ≤ length (lines_text (entries_to s n))
unfolding entries_to
lines_within s i zero l = let none : i ≡ 0 = omega arith in rw none (omega arith)
lines_within s i (suc n) l =
    ⊎_elim
    (λ (past : n < i). let all : i ≡ suc n = omega arith in rw all (omega arith))
    (λ before.
    let more = entry_of (suc n) (slot_of s (suc n)) in
    omega (arith, lines_within s i n before, ap length (lines_join (entries_to s n) more), length-append (lines_text (entries_to s n)) (lines_text more)))
    (below_or_not n i)

-- The slot at an index is the next note's. What a read past the end would give is unlisted, as a slot that is there for no note is.
module _ (s : Session) (z : Slot) (unlisted : z.status ≡ 0) (i : ℕ) (l : i < 32) where
  same_place : {B : Type 0} (f : Slot → B) → f empty_slot ≡ f z → f (slot_of s (suc i)) ≡ f (get_or s.slots i z)
  same_place f same =
      let at : suc i - 1 ≡ i = omega arith in
      let here : slot_of s (suc i) ≡ get_or s.slots i empty_slot =
      session.places s (suc i) (omega arith) (omega arith) ∙ ap (λ (k : ℕ). get_or s.slots k empty_slot) at in
      ap f here
      ∙ ⊎_elim
      (λ within. ap f (getD_within s.slots i empty_slot z within))
      (λ past. rw (get_or_past s.slots i empty_slot past, get_or_past s.slots i z past) same)
      (below_or_not i (length s.slots))

  same_entry : entry_of (suc i) (slot_of s (suc i)) ≡ entry_of (suc i) (get_or s.slots i z)
  unfolding empty_slot
  same_entry = same_place (entry_of (suc i)) (entry_unlisted (suc i) empty_slot refl ∙ sym (entry_unlisted (suc i) z unlisted))

  pub same_unspoilt : unspoilt (slot_of s (suc i)) ≡ unspoilt (get_or s.slots i z)
  unfolding unspoilt empty_slot
  same_unspoilt = same_place unspoilt (rw unlisted)

  entries_more : entries_to s (i + 1) ≡ entries_to s i ++ entry_of (i + 1) (get_or s.slots i z)
  unfolding entries_to
  entries_more = rw (add-one i, same_entry)

  pub entries_same : [] ≡ entry_of (i + 1) (get_or s.slots i z) → entries_to s (i + 1) ≡ entries_to s i
  entries_same none = entries_more ∙ rw (← none) (append-nil (entries_to s i))

  module _ (e : Entry) (its : e ∷ [] ≡ entry_of (i + 1) (get_or s.slots i z)) where
    pub entries_next : entries_to s (i + 1) ≡ entries_to s i ++ (e ∷ [])
    entries_next = entries_more ∙ rw (← its)

    pub lines_next : lines_text (entries_to s (i + 1)) ≡ lines_text (entries_to s i) ++ line_text e
    lines_next = rw (entries_next, ← one_line e) (lines_join (entries_to s i) (e ∷ []))
