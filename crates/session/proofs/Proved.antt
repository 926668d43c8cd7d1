-- Every promise of the crate, proved. Assumes nothing.
use Prim.Native.Nat.{ℕ, ◌<◌}
use mathlib.Core.Path.{◌≡◌, refl}
use mathlib.Core.Logic.{◌⊎◌, inl, inr}
use mathlib.Core.Bool.{false}
use mathlib.Core.List.{List}
use native.Mathlib.Omega.{arith}
use lib.ListN.{length, get_or}
use Rattle.truth.proofs.Tests.{never}
use Rattle.rules.specs.Rules.{is_note}
use Rattle.rules.proofs.Rules.{is_note_is}
use Rattle.slots.specs.Slots.{empty_slot}
use Rattle.session.specs.Sessions.{empty_session, slot_of, put_slot}
use Rattle.session.specs.Light.{ready, put_counted}
use Rattle.session.specs.Operations.{on_note, deliver, ask, delivery, note_of, doing, perform}
use Rattle.slots.specs.Delivery.{deliver_at}
use Rattle.session.specs.declared.Session.{Session}
use Rattle.session.specs.Promises.{Promises}
use Rattle.session.proofs.Putting.{index_of_note, index_of_no_note, index_lt, slot_at, put_own, put_other, put_back}
use Rattle.session.proofs.Rows.{by_table, ask_by_table, refused_leaves, empty_leaves, accepted_when, accepted_counts, empty_slot_lem, empty_asked}
use Rattle.session.proofs.Apart.{own_slot, own_count, other_slots, are_apart}
use Rattle.session.proofs.Light.{light_is, open_count}
use Rattle.session.proofs.Counts.{counts_are, opening_is}

no_note : (note : ℕ) → (note ≡ 0) ⊎ (32 < note) → is_note note ≡ false
no_note note (inl e) = never _ (λ h. let range = (is_note_is note).0 h in omega arith)
no_note note (inr e) = never _ (λ h. let range = (is_note_is note).0 h in omega arith)

no_place : (s : Session) (note : ℕ) → (note ≡ 0) ⊎ (32 < note) → slot_of s note ≡ get_or s.slots 0 empty_slot
unfolding slot_of
no_place s note h = rw (index_of_no_note note (no_note note h))

empty_long : length empty_session.slots ≡ 32
unfolding empty_session
empty_long = refl

delivers : (s : Session) (note : ℕ) (piece : List ℕ) → perform s (delivery note piece) ≡ deliver s note piece
unfolding perform deliver note_of doing
delivers s note piece = refl

pub proved : Promises
unfolding deliver ask on_note put_counted put_slot empty_session deliver_at note_of ready
proved =
    record {
      places = slot_at;
      no_place = no_place;
      index = λ note low high. index_of_note note ((is_note_is note).1 (low, high));
      no_index = λ note h. index_of_no_note note (no_note note h);
      put_own = λ s note slot all. put_own s note slot (rw all (index_lt note));
      put_other = put_other;
      put_back = put_back;
      put_counts = λ s note slot. (refl, refl);
      empty_counts = (refl, refl);
      empty_slots = empty_long;
      empty_lists = empty_slot_lem;
      empty_asked = empty_asked;
      table = by_table;
      ask_table = ask_by_table;
      refused = refused_leaves;
      empty_piece = empty_leaves;
      takes = accepted_when;
      counted = accepted_counts;
      by_slot = λ s note piece. refl;
      on_note_is = λ s note f. refl;
      ask_by_slot = λ s note. refl;
      on_note_lem = λ s note piece. refl;
      note_of_lem = λ note piece. refl;
      delivers = delivers;
      own_slot = own_slot;
      other_slots = λ s note m f. other_slots s note m f;
      own_count = own_count;
      listed_stays = λ s note f. refl;
      apart = are_apart;
      lights = light_is;
      ready_by = λ s. refl;
      open_count = open_count;
      counts = counts_are;
      opened_then = opening_is;
    }
