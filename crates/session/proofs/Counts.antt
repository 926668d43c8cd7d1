-- What a delivery does to the two counts. Assumes nothing.
use Prim.Native.Nat.{ℕ, ◌+◌, ◌≤◌, ◌<◌}
use mathlib.Core.Path.{◌≡◌, refl, sym, ap, ◌∙◌}
use mathlib.Core.Logic.{◌↔◌}
use mathlib.Core.List.{List}
use native.Mathlib.Omega.{arith}
use lib.ListN.{length}
use Rattle.refusal.specs.Table.{accepted}
use Rattle.slots.specs.Delivery.{with_piece}
use Rattle.slots.specs.declared.Slot.{Slot}
use Rattle.session.specs.Sessions.{slot_of, put_slot}
use Rattle.session.specs.Operations.{deliver}
use Rattle.session.specs.Promises.{Row, row5, row6, row7, row8, row0, Opening, Counts}
use Rattle.session.specs.declared.Session.{Session}
use Rattle.session.specs.declared.Delivered.{Delivered}
use Rattle.session.proofs.Light.{open_count_is}
use Rattle.session.proofs.Putting.{index_lt, put_own}
use Rattle.session.proofs.Rows.{by_table}

module _ (s : Session) (note : ℕ) (piece : List ℕ) where
  row_is : Row s note piece (deliver s note piece)
  row_is = (by_table s note piece (deliver s note piece)).0 refl

  -- a row that refuses leaves both counts, and one that accepts goes by the note's status
  abbrev By : Delivered → Type 0
  By d =
      (d.session.listed ≡ s.listed)
      × ((d.answer.number ≡ accepted) × (d.answer.status ≡ 2) → s.opened < 32 → d.session.opened ≡ s.opened + 1)
      × (32 ≤ s.opened → d.session.opened ≡ s.opened)
      × (((d.answer.number ≡ accepted) × (d.answer.status ≡ 2) → ⊥) → d.session.opened ≡ s.opened)

  left : (d : Delivered) → (d.answer.number ≡ accepted → ⊥) → d.session ≡ s → By d
  left d refused same = rw same (refl, λ o. absurd (refused o.0), λ high. refl, λ others. refl)

  by_row : {d : Delivered} → Row s note piece d → By d
  by_row {d} (row5 u) = left d (λ n. absurd (omega arith)) refl
  by_row {d} (row6 l x) = left d (λ n. absurd (omega arith)) refl
  by_row {d} (row7 w) = left d (λ n. absurd (omega arith)) refl
  by_row {d} (row8 w e) = left d (λ n. absurd (omega arith)) refl
  by_row (row0 w e) =
      let count = open_count_is s.opened 1 (with_piece (slot_of s note) piece).status in
      (refl, λ o. count.opening (λ h. absurd (omega arith)) o.1, count.full, λ others. count.not_opened (λ o. others (refl, o)))

  pub counts_are : Counts s note piece
  counts_are = let (listed, opening, full, others) = by_row row_is in record { listed = listed; opening = opening; full = full; others = others }

  -- opening, by the slot before and after
  module _ (all : length s.slots ≡ 32) where
    -- the slot that stands there afterwards, where a piece is taken
    there : (after : Slot) (listed_count open_count : ℕ)
        → slot_of (record { slots = (put_slot s note after).slots; listed = listed_count; opened = open_count }) note ≡ after
    unfolding slot_of
    there after listed_count open_count = put_own s note after (rw all (index_lt note))

    was_and_is : {d : Delivered} → Row s note piece d
        → ((d.answer.number ≡ accepted) × (d.answer.status ≡ 2)) ↔ (((slot_of s note).status ≡ 2 → ⊥) × ((slot_of d.session note).status ≡ 2))
    was_and_is (row5 u) = (λ h. absurd (omega (arith, h.0)), λ h. absurd (h.0 h.1))
    was_and_is (row6 l x) = (λ h. absurd (omega (arith, h.0)), λ h. absurd (h.0 h.1))
    was_and_is (row7 w) = (λ h. absurd (omega (arith, h.0)), λ h. absurd (h.0 h.1))
    was_and_is (row8 w e) = (λ h. absurd (omega (arith, h.0)), λ h. absurd (h.0 h.1))
    was_and_is (row0 w e) =
        let then : (slot_of _ note).status ≡ (with_piece (slot_of s note) piece).status = ap (λ (x : Slot). x.status) (there (with_piece (slot_of s note) piece) _ _) in (
          λ h. (λ o. absurd (omega (arith, w.waiting, o)), then ∙ h.1),
          λ h. (refl, sym then ∙ h.1),
        )

    pub opening_is : Opening s note piece ↔ (((slot_of s note).status ≡ 2 → ⊥) × ((slot_of (deliver s note piece).session note).status ≡ 2))
    opening_is = was_and_is row_is
