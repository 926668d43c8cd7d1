-- What so many slots come to, and what all do. Assumes nothing.
use Prim.Native.Nat.{ℕ, zero, suc, ◌+◌, ◌*◌, ◌<◌, ◌≤◌}
use mathlib.Core.Path.{◌≡◌, refl, ◌∙◌, subst}
use mathlib.Core.List.{[], ◌∷◌}
use mathlib.Core.Logic.{⊎_elim}
use mathlib.Core.Bool.{Bool, true, false, cond, not, ◌&&◌, ◌||◌}
use native.Mathlib.Omega.{arith}
use native.Mathlib.Numerals.{add-one}
use borrow.Author.Tests.{not-true, not-false}
use lib.Dec.{eqb}
use lib.ListN.{length, get_or, length-append}
use Rattle.std.specs.Prelude.{Result, Ok, Err}
use Rattle.truth.proofs.Tests.{below_or_not}
use Rattle.refusal.specs.declared.Refusal.{Refusal}
use Rattle.refusal.specs.declared.Refusal.TheVariants
use Rattle.lines.specs.declared.Entry.{Entry}
use Rattle.slots.specs.Slots.{slot_in_order}
use Rattle.slots.specs.declared.Slot.{Slot}
use Rattle.session.specs.declared.Session.{Session}
use Rattle.writing.specs.Texts.{line_text, lines_text}
use Rattle.writing.specs.Writing.{entry_of, entries_to, entries_of, unspoilt, unspoilt_to}
use Rattle.writer.specs.Survey.{survey}
use Rattle.writer.specs.declared.Found.{Found}
use Rattle.writer.proofs.Slots.{same_unspoilt, entries_same, entries_next, lines_next}

-- so many slots are surveyed
pub record Surveyed (s : Session) (found : Found) (i : ℕ) : Type 0 where
  pub within : i ≤ 32
  pub sound : unspoilt_to s i ≡ true
  pub notes : found.notes ≡ length (entries_to s i)
  pub size : found.size ≡ length (lines_text (entries_to s i))
  pub few : found.notes ≤ i
  pub short : found.size ≤ i * 109

pub begun : (s : Session) → Surveyed s (record { notes = 0; size = 0 }) 0
unfolding entries_to unspoilt_to lines_text
begun s = record { within = omega arith; sound = refl; notes = refl; size = refl; few = omega arith; short = omega arith }

-- an unlisted slot is not looked at, and a listed one goes by its order
unlisted : (note : ℕ) (slot : Slot) → [] ≡ entry_of note slot → unspoilt slot ≡ true
unfolding entry_of unspoilt
unlisted note slot none = by (eqb slot.status 0) (record { note = note; sample = slot.sample }) none
  where
    by : (b : Bool) (its : Entry) → [] ≡ cond b [] (its ∷ []) → (b || slot_in_order slot) ≡ true
    by true its e = refl
    by false its e = absurd cc

in_order : (note : ℕ) (slot : Slot) (e : Entry) → e ∷ [] ≡ entry_of note slot → unspoilt slot ≡ slot_in_order slot
unfolding entry_of unspoilt
in_order note slot e some = by (eqb slot.status 0) (record { note = note; sample = slot.sample }) some
  where
    by : (b : Bool) (its : Entry) → e ∷ [] ≡ cond b [] (its ∷ []) → (b || slot_in_order slot) ≡ slot_in_order slot
    by true its h = absurd cc
    by false its h = refl

-- one that is spoilt spoils all
stays_spoilt : (s : Session) (i n : ℕ) → unspoilt_to s i ≡ false → i ≤ n → unspoilt_to s n ≡ false
unfolding unspoilt_to
stays_spoilt s i zero h l = let none : i ≡ 0 = omega arith in subst (λ (n : ℕ). unspoilt_to s n ≡ false) none h
stays_spoilt s i (suc n) h l =
    ⊎_elim
    (λ (past : n < i). let all : i ≡ suc n = omega arith in subst (λ (k : ℕ). unspoilt_to s k ≡ false) all h)
    (λ before. simp (stays_spoilt s i n h before))
    (below_or_not n i)

module _ (s : Session) (z : Slot) (none : z.status ≡ 0) (found : Found) (i : ℕ) (f : Surveyed s found i) (l : i < 32) where
  sound_more : unspoilt_to s (i + 1) ≡ (unspoilt_to s i && unspoilt (get_or s.slots i z))
  unfolding unspoilt_to
  sound_more = rw (add-one i, same_unspoilt s z none i l)

  pub skipped : [] ≡ entry_of (i + 1) (get_or s.slots i z) → Surveyed s found (i + 1)
  skipped nothing =
      let same = entries_same s z none i l nothing in
      record {
        within = omega arith;
        sound = sound_more ∙ rw (f.sound, unlisted (i + 1) (get_or s.slots i z) nothing);
        notes = f.notes ∙ rw same;
        size = f.size ∙ rw same;
        few = omega (arith, f.few);
        short = omega (arith, f.short);
      }

  module _ (e : Entry) (its : e ∷ [] ≡ entry_of (i + 1) (get_or s.slots i z)) where
    pub counted : (good : Bool) → good ≡ slot_in_order (get_or s.slots i z) → not good ≡ false → (size : ℕ) → (size ≡ length (line_text e)) × (size ≤ 109)
        → Surveyed s (record { notes = found.notes + 1; size = found.size + size }) (i + 1)
    counted good is_good well size is_size =
        record {
          within = omega arith;
          sound = sound_more ∙ rw (f.sound, in_order (i + 1) (get_or s.slots i z) e its, ← is_good) (not-false good well);
          notes = rw (entries_next s z none i l e its) (omega (arith, f.notes, length-append (entries_to s i) (e ∷ [])));
          size = rw (lines_next s z none i l e its) (omega (arith, f.size, is_size.0, length-append (lines_text (entries_to s i)) (line_text e)));
          few = omega (arith, f.few);
          short = omega (arith, f.short, is_size.1);
        }

    pub spoilt : (good : Bool) → good ≡ slot_in_order (get_or s.slots i z) → not good ≡ true → Err TheVariants.SlotNotInOrder ≡ survey s
    unfolding survey
    spoilt good is_good bad =
        let here : unspoilt_to s (i + 1) ≡ false = sound_more ∙ rw (f.sound, in_order (i + 1) (get_or s.slots i z) e its, ← is_good) (not-true good bad) in
        rw (stays_spoilt s (i + 1) 32 here (omega arith))

pub surveyed : (s : Session) (found : Found) (i : ℕ) → Surveyed s found i → 32 ≤ i → (Ok found ≡ survey s) × (found.size ≤ 3488)
unfolding survey entries_of
surveyed s found i f big =
    let all : i ≡ 32 = omega (arith, f.within) in
    let sound : unspoilt_to s 32 ≡ true = subst (λ (n : ℕ). unspoilt_to s n ≡ true) all f.sound in
    let notes : found.notes ≡ length (entries_to s 32) = subst (λ (n : ℕ). found.notes ≡ length (entries_to s n)) all f.notes in
    let size : found.size ≡ length (lines_text (entries_to s 32)) = subst (λ (n : ℕ). found.size ≡ length (lines_text (entries_to s n))) all f.size in
    (rw (sound, ← notes, ← size), omega (arith, f.short))

-- what a survey tells
module _ (s : Session) where
  abbrev pub all_found : Found
  all_found = record { notes = length (entries_of s); size = length (lines_text (entries_of s)) }

  pub survey_ok : (found : Found) → Ok found ≡ survey s → (unspoilt_to s 32 ≡ true) × (found ≡ all_found)
  unfolding survey
  survey_ok found e = by (unspoilt_to s 32) e
    where
      by : (b : Bool) → ◌≡◌ {A = Result Found Refusal} (Ok found) (cond b (Ok all_found) (Err TheVariants.SlotNotInOrder)) → (b ≡ true) × (found ≡ all_found)
      by true e = (refl, cc)
      by false e = absurd cc

  pub survey_err : (refusal : Refusal) → Err refusal ≡ survey s → (unspoilt_to s 32 ≡ false) × (refusal ≡ TheVariants.SlotNotInOrder)
  unfolding survey
  survey_err refusal e = by (unspoilt_to s 32) e
    where
      by : (b : Bool) → ◌≡◌ {A = Result Found Refusal} (Err refusal) (cond b (Ok all_found) (Err TheVariants.SlotNotInOrder)) → (b ≡ false) × (refusal ≡ TheVariants.SlotNotInOrder)
      by true e = absurd cc
      by false e = (refl, cc)
