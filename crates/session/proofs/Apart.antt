-- Operations on different notes. Assumes nothing.
use Prim.Native.Nat.{ℕ, ◌≤◌}
use mathlib.Core.Path.{◌≡◌, refl, sym, ◌∙◌}
use mathlib.Core.Bool.{Bool, true, false}
use Rattle.rules.specs.Rules.{is_note}
use Rattle.rules.proofs.Rules.{is_note_is}
use Rattle.slots.specs.Delivery.{is_listed}
use Rattle.session.specs.Sessions.{slot_of}
use Rattle.session.specs.Light.{put_counted}
use Rattle.session.specs.Operations.{on_note}
use Rattle.session.specs.Promises.{Apart}
use Rattle.slots.specs.declared.Slot.{Slot}
use Rattle.session.specs.declared.Session.{Session}
use Rattle.slots.specs.declared.Step.{Step}
use Rattle.slots.proofs.Listed.{listed_note, no_note}
use Rattle.session.proofs.Putting.{indices_differ, counted_other, put_both, on_listed, on_unlisted}

-- an operation answers by its own slot
pub own_slot : (s t : Session) (note : ℕ) (f : Slot → Step) → slot_of s note ≡ slot_of t note → (on_note s note f).answer ≡ (on_note t note f).answer
unfolding on_note
own_slot s t note f e = rw e

-- and its open count goes by that slot and by the count
pub own_count : (s t : Session) (note : ℕ) (f : Slot → Step) → slot_of s note ≡ slot_of t note → s.opened ≡ t.opened
    → (on_note s note f).session.opened ≡ (on_note t note f).session.opened
unfolding on_note put_counted
own_count s t note f e c = rw (e, c)

module _ (s : Session) (m n : ℕ) (f : Slot → Step) (ne : m ≡ n → ⊥) where
  -- a slot of another note is as it was, and as listed as it was
  other_slot : (l : Bool) → is_listed (slot_of s m) m ≡ l → is_note n ≡ true → slot_of (on_note s m f).session n ≡ slot_of s n
  other_slot true h k = rw (on_listed s m f h) (counted_other s m n _ (indices_differ n m (λ e. ne (sym e)) k (listed_note (slot_of s m) m h)))
  other_slot false h k = rw (on_unlisted s m f h)

  pub other_kept : is_note n ≡ true → slot_of (on_note s m f).session n ≡ slot_of s n
  other_kept = other_slot _ refl

  pub other_slots : 1 ≤ n → n ≤ 32 → slot_of (on_note s m f).session n ≡ slot_of s n
  other_slots low high = other_kept ((is_note_is n).1 (low, high))

  listed_kept : (b : Bool) → is_note n ≡ b → is_listed (slot_of (on_note s m f).session n) n ≡ is_listed (slot_of s n) n
  listed_kept true h = rw (other_kept h)
  listed_kept false h = no_note _ n h ∙ sym (no_note _ n h)

  pub other_listed : is_listed (slot_of (on_note s m f).session n) n ≡ is_listed (slot_of s n) n
  other_listed = listed_kept _ refl

module _ (s : Session) (m n : ℕ) (f g : Slot → Step) (ne : m ≡ n → ⊥) where
  answer_kept : (l : Bool) → is_listed (slot_of s n) n ≡ l → (on_note (on_note s m f).session n g).answer ≡ (on_note s n g).answer
  answer_kept true h =
      rw (on_listed (on_note s m f).session n g (other_listed s m n f ne ∙ h), on_listed s n g h, other_kept s m n f ne (listed_note _ n h))
  answer_kept false h = rw (on_unlisted (on_note s m f).session n g (other_listed s m n f ne ∙ h), on_unlisted s n g h)

  commute : (l k : Bool) → is_listed (slot_of s m) m ≡ l → is_listed (slot_of s n) n ≡ k
      → (on_note (on_note s m f).session n g).session ≡ (on_note (on_note s n g).session m f).session
  commute l false p q = rw (on_unlisted (on_note s m f).session n g (other_listed s m n f ne ∙ q), on_unlisted s n g q)
  commute false true p q = rw (on_unlisted (on_note s n g).session m f (other_listed s n m g (λ e. ne (sym e)) ∙ p), on_unlisted s m f p)
  commute true true p q =
      let is = listed_note _ m p in
      let is' = listed_note _ n q in
      rw (
        on_listed (on_note s m f).session n g (other_listed s m n f ne ∙ q),
        on_listed (on_note s n g).session m f (other_listed s n m g (λ e. ne (sym e)) ∙ p),
        other_kept s m n f ne is',
        other_kept s n m g (λ e. ne (sym e)) is,
        on_listed s m f p,
        on_listed s n g q,
      )
      (put_both s m n _ _ (indices_differ m n ne is is'))

  pub are_apart : Apart s m n f g
  are_apart = record { answers = answer_kept _ refl; sessions = commute _ _ refl refl }
