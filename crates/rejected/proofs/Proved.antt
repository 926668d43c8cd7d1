-- The crate's promises, proved. Assumes nothing.
use Prim.Native.Nat.{ℕ, ◌+◌, ◌≤◌}
use mathlib.Core.Path.{◌≡◌, refl, sym, ap, ◌∙◌}
use mathlib.Core.List.{List}
use lib.ListN.{length, replicate, length-replicate}
use native.Mathlib.Nat.{zero-add}
use native.Mathlib.Omega.{arith}
use Rattle.hash.specs.State.{fresh}
use Rattle.slots.specs.Promises.{OutcomeOf}
use Rattle.slots.specs.declared.Slot.{Slot}
use Rattle.session.specs.Sessions.{slot_of}
use Rattle.session.specs.Operations.{deliver}
use Rattle.session.specs.Promises.{TakesOf, CountedOf}
use Rattle.session.specs.declared.Session.{Session}
use Rattle.session.specs.declared.Delivered.{Delivered}
use Rattle.session.proofs.Proved.{proved as session}
use Rattle.sheet.specs.Judging.{sheet_of}
use Rattle.sheet.specs.declared.Sheet.{Sheet}
use Rattle.sheet_promises.specs.Promises.{AcceptsOf, first, further}
use Rattle.sheet_promises.proofs.Proved.{proved as sheet}
use Rattle.rejected.specs.Example.{text, note5, note9, notes}
use Rattle.rejected.specs.Wrong.{RefusesSheets, RefusesPieces, AlwaysShut, invents}
use Rattle.rejected.specs.Promises.{Promises}
use Rattle.rejected.proofs.Example.{is_sheet, printed_refused, lists, fresh_in_order, nothing_yet, asked, obeys5, obeys9, waits5}
use Rattle.rejected.proofs.Digests.{no_constant, no_idle, no_first_only}
use Rattle.rejected.proofs.Loops.{old_beyond, no_other, lowered_is}
use Rattle.rejected.proofs.Light.{two, fitting, fitting_obeys, no_other_light, turns_dark, one_one, goes_dark_then}

no_sheets : (reading : List ℕ → Sheet) → RefusesSheets reading → AcceptsOf reading → ⊥
no_sheets reading never accepts = never text ((accepts text).1 (notes, is_sheet))

-- so many bytes to note 5, of its 64
unfoldable zeros : ℕ → List ℕ
zeros n = replicate n 0

so_many : (n : ℕ) → length (zeros n) ≡ n
unfolding zeros
so_many n = length-replicate n 0

bytes_taken_lem : (n : ℕ) → n ≤ 64 → (deliver (sheet_of text).session 5 (zeros n)).answer.number ≡ 0
bytes_taken_lem n within =
    (session.takes (sheet_of text).session 5 (zeros n)).1 (waits5, rw (lists.listed note5 first) (rw (so_many n) (rw (zero-add n) within)))

no_pieces : (delivering : Session → (note : ℕ) (piece : List ℕ) → Delivered) → RefusesPieces delivering → TakesOf delivering → ⊥
no_pieces delivering never takes =
    let s = (sheet_of text).session in
    never s 5 (zeros 0) ((takes s 5 (zeros 0)).1 ((session.takes s 5 (zeros 0)).0 (bytes_taken_lem 0 (omega arith))))

never_shut : (putting : Slot → List ℕ → Slot) → AlwaysShut putting → OutcomeOf putting → ⊥
unfolding fitting fresh
never_shut putting always outcome =
    let slot : Slot = record { sample = fitting; state = fresh; status = 1 } in
    let ordered = fresh_in_order fitting fitting_obeys in
    let o = outcome slot two ordered refl (omega arith) in
    let z = (o.opens refl).1 refl in
    let w = always slot two ordered refl refl in
    omega arith

no_invented : (counting : ℕ → ℕ) (bytes : ℕ) → bytes ≤ 64 → (counting bytes ≡ bytes → ⊥) → CountedOf (invents counting) → ⊥
unfolding invents
no_invented counting bytes within differs counted =
    let s = (sheet_of text).session in
    let is : (slot_of s 5).state.total + length (zeros bytes) ≡ bytes =
    rw (nothing_yet note5 first (omega arith) (omega arith) obeys5) (zero-add (length (zeros bytes)) ∙ so_many bytes)
    in
    let right = session.counted s 5 (zeros bytes) (bytes_taken_lem bytes within) ∙ is in
    differs (sym (ap counting right) ∙ counted s 5 (zeros bytes) (bytes_taken_lem bytes within) ∙ is)

pub proved : Promises
proved =
    record {
      is_sheet = is_sheet;
      is_accepted = sheet.from_start text ∙ (sheet.judges text 0).1 (notes, is_sheet);
      lists = lists;
      waits_5 = asked note5 first (omega arith) (omega arith) obeys5;
      waits_9 = asked note9 (further first) (omega arith) (omega arith) obeys9;
      ends_5 = ap (λ (x : Slot). x.sample.loop_end) (lists.listed note5 first);
      ends_9 = ap (λ (x : Slot). x.sample.loop_end) (lists.listed note9 (further first));
      printed_refused = printed_refused;
      sheets = no_sheets;
      pieces = no_pieces;
      digest = no_constant;
      shut = never_shut;
      nothing = no_idle;
      first_only = no_first_only;
      count = no_invented;
      old_loops = old_beyond;
      other_loops = no_other;
      lowered = lowered_is;
      other_lights = λ light listed opened within most. no_other_light listed opened within most light;
      one_and_one = (one_one, 1, two, goes_dark_then);
      goes_dark = turns_dark;
    }
