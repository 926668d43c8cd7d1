-- `door`: any two results that meet a contract coincide; and a contract is what is promised, of its own arguments. Assumes nothing.
use mathlib.Core.Path.{◌≡◌, refl, sym, ◌∙◌}
use mathlib.Core.Bool.{true}
use mathlib.Core.Logic.Iff
use mathlib.Core.Logic.{◌↔◌}
use Prim.Native.Nat.{ℕ}
use mathlib.Core.List.{List}
use Rattle.standard.specs.Standard.{folded}
use Rattle.session.specs.declared.Session.{Session}
use Rattle.hash.specs.declared.Hash.{Hash}
use Rattle.writing.specs.Promises.{Row}
use Rattle.session.specs.Promises.{AskRow, Row as DeliveryRow}
use Rattle.session.proofs.Proved.{proved as session}
use Rattle.writing.proofs.Proved.{proved as writing}
use Rattle.coincide.proofs.Tells.{tells}
use Rattle.coincide.proofs.Session.{lit_means, delivered}
use Rattle.sheet_promises.specs.Promises.{SheetRow}
use Rattle.coincide.proofs.Reading.{reads, reads_whole}
use Rattle.hash.specs.State.{fresh}
use Rattle.hash.specs.Update.{update as updated}
use Rattle.hash.specs.Digests.{finish as finished, digest, compare_message, compare_state}
use Rattle.padding.specs.Writing.{written, buffer_after}
use Rattle.padded.specs.Viewing.{view_number, view_place}
use Rattle.padded.specs.Removing.{remove_number, remove_length}
use Rattle.coincide.specs.Coincide.{Coincide, CoincideAt, Means, Says, Answers}
use Rattle.hash.specs.declared.Digest.{Digest}
use Rattle.mac.specs.Promises.{StartRow, UpdateRow, FinishRow, CodeRow, HeldRow}
use Rattle.mac.specs.declared.Code.{Code}
use Rattle.mac.proofs.Proved.{proved as codes}
use Rattle.keyed_promises.specs.Answers.{Answered}
use Rattle.keyed_promises.proofs.Proved.{proved as keyed}
use Rattle.coincide.proofs.Coding.{taken, keyed_whole}
use Rattle.door.specs.contracts
use Rattle.door.proofs

abbrev pub vs_update_in_place_says : Says contracts.vs_update_in_place.ended (λ M 𝓤. contracts.vs_update_in_place.clauses {M = M} {𝓤 = 𝓤})
vs_update_in_place_says = record { claim = proofs.vs_update_in_place.Reads.Post; stated = λ M 𝓤 𝓛 mem run κs a g r e. refl }

pub vs_update_in_place : CoincideAt contracts.vs_update_in_place.ended Hash (λ κs e. e.0.now) vs_update_in_place_says.claim
vs_update_in_place κs a x y e f p q = (p.0 ∙ sym q.0, p.1 ∙ sym q.1)

abbrev pub vs_deliver_in_place_says : Says contracts.vs_deliver_in_place.ended (λ M 𝓤. contracts.vs_deliver_in_place.clauses {M = M} {𝓤 = 𝓤})
vs_deliver_in_place_says = record { claim = proofs.vs_deliver_in_place.Reads.Post; stated = λ M 𝓤 𝓛 mem run κs a g r e. refl }

pub vs_deliver_in_place : CoincideAt contracts.vs_deliver_in_place.ended Session (λ κs e. e.0.now) vs_deliver_in_place_says.claim
vs_deliver_in_place κs a x y e f p q = (p.0 ∙ sym q.0, p.1 ∙ sym q.1)

abbrev pub vs_ask_in_place_says : Says contracts.vs_ask_in_place.ended (λ M 𝓤. contracts.vs_ask_in_place.clauses {M = M} {𝓤 = 𝓤})
vs_ask_in_place_says = record { claim = proofs.vs_ask_in_place.Reads.Post; stated = λ M 𝓤 𝓛 mem run κs a g r e. refl }

pub vs_ask_in_place : Coincide contracts.vs_ask_in_place.ended vs_ask_in_place_says.claim
vs_ask_in_place κs a x y e f p q = p ∙ sym q

abbrev pub vs_ready_says : Says contracts.vs_ready.ended (λ M 𝓤. contracts.vs_ready.clauses {M = M} {𝓤 = 𝓤})
vs_ready_says = record { claim = proofs.vs_ready.Reads.Post; stated = λ M 𝓤 𝓛 mem run κs a g r e. refl }

pub vs_ready : Coincide contracts.vs_ready.ended vs_ready_says.claim
vs_ready κs a x y e f p q = p ∙ sym q

-- what meets the contract is that this session's counts are equal and not zero
pub vs_ready_means : Means contracts.vs_ready.ended vs_ready_says.claim
    (λ κs a r e. (r ≡ true) ↔ ((a.0.now.listed ≡ a.0.now.opened) × (a.0.now.opened ≡ 0 → ⊥)))
vs_ready_means κs a r e = tells _ r (lit_means a.0.now)

abbrev pub vs_sheet_read_in_place_says : Says contracts.vs_sheet_read_in_place.ended (λ M 𝓤. contracts.vs_sheet_read_in_place.clauses {M = M} {𝓤 = 𝓤})
vs_sheet_read_in_place_says = record { claim = proofs.vs_sheet_read_in_place.Reads.Post; stated = λ M 𝓤 𝓛 mem run κs a g r e. refl }

pub vs_sheet_read_in_place : CoincideAt contracts.vs_sheet_read_in_place.ended Session (λ κs e. e.0.now) vs_sheet_read_in_place_says.claim
vs_sheet_read_in_place κs a x y e f p q = (p.0 ∙ sym q.0, p.1 ∙ sym q.1)

abbrev pub vs_sheet_write_says : Says contracts.vs_sheet_write.ended (λ M 𝓤. contracts.vs_sheet_write.clauses {M = M} {𝓤 = 𝓤})
vs_sheet_write_says = record { claim = proofs.vs_sheet_write.Reads.Post; stated = λ M 𝓤 𝓛 mem run κs a g r e. refl }

pub vs_sheet_write : CoincideAt contracts.vs_sheet_write.ended (List ℕ) (λ κs e. e.1.0.now) vs_sheet_write_says.claim
vs_sheet_write κs a x y e f p q = (p.0 ∙ sym q.0, p.1 ∙ sym q.1)

-- what meets the contract is the row of the table for writing that holds of this session and this buffer
pub vs_sheet_write_rows : Means contracts.vs_sheet_write.ended vs_sheet_write_says.claim
    (λ κs a r e. Row a.0.now a.1.0.now r e.1.0.now)
vs_sheet_write_rows κs a r e = writing.table a.0.now a.1.0.now r e.1.0.now

-- and so of asking and of a delivery, with this session, note and piece
pub vs_ask_rows : Means contracts.vs_ask.ended proofs.vs_ask.Reads.Post (λ κs a r e. AskRow a.0 a.1.0 r)
vs_ask_rows κs a r e = session.ask_table a.0 a.1.0 r

pub vs_deliver_rows : Means contracts.vs_deliver.ended proofs.vs_deliver.Reads.Post (λ κs a r e. DeliveryRow a.0 a.1.0 a.1.1.0.now r)
vs_deliver_rows κs a r e = session.table a.0 a.1.0 a.1.1.0.now r

pub vs_ask_in_place_rows : Means contracts.vs_ask_in_place.ended vs_ask_in_place_says.claim (λ κs a r e. AskRow a.0.now a.1.0 r)
vs_ask_in_place_rows κs a r e = session.ask_table a.0.now a.1.0 r

pub vs_deliver_in_place_rows : Means contracts.vs_deliver_in_place.ended vs_deliver_in_place_says.claim
    (λ κs a r e. DeliveryRow a.0.now a.1.0 a.1.1.0.now (record { answer = r; session = e.0.now }))
vs_deliver_in_place_rows κs a r e = delivered a.0.now a.1.0 a.1.1.0.now r e.0.now

-- and so of reading a sheet: this text, and the session that is left, whatever it was before
pub vs_sheet_read_rows : Means contracts.vs_sheet_read.ended proofs.vs_sheet_read.Reads.Post (λ κs a r e. SheetRow a.0.now r.verdict r.session)
vs_sheet_read_rows κs a r e = reads_whole a.0.now r

pub vs_sheet_read_in_place_rows : Means contracts.vs_sheet_read_in_place.ended vs_sheet_read_in_place_says.claim
    (λ κs a r e. SheetRow a.1.0.now r e.0.now)
vs_sheet_read_in_place_rows κs a r e = reads a.1.0.now r e.0.now

pub vs_fold_means : Answers contracts.vs_fold.ended proofs.vs_fold.Reads.Post (λ κs a. folded a.0 a.1.0.now)
vs_fold_means κs a r e = Iff.rfl

pub vs_pad_write : CoincideAt contracts.vs_pad_write.ended (List ℕ) (λ κs e. e.1.0.now) proofs.vs_pad_write.Reads.Post
vs_pad_write κs a x y e f p q = (p.0 ∙ sym q.0, p.1 ∙ sym q.1)

pub vs_sheet_read : Coincide contracts.vs_sheet_read.ended proofs.vs_sheet_read.Reads.Post
vs_sheet_read κs a x y e f p q = p ∙ sym q

pub vs_deliver : Coincide contracts.vs_deliver.ended proofs.vs_deliver.Reads.Post
vs_deliver κs a x y e f p q = p ∙ sym q

pub vs_ask : Coincide contracts.vs_ask.ended proofs.vs_ask.Reads.Post
vs_ask κs a x y e f p q = p ∙ sym q

-- 4/13: codes, and the keyed sheet
pub vs_code_start : Coincide contracts.vs_code_start.ended proofs.vs_code_start.Reads.Post
vs_code_start κs a x y e f p q = p ∙ sym q

pub vs_code_start_rows : Means contracts.vs_code_start.ended proofs.vs_code_start.Reads.Post (λ κs a r e. StartRow a.0.now r)
vs_code_start_rows κs a r e = codes.tables.starts a.0.now r

pub vs_code_update : Coincide contracts.vs_code_update.ended proofs.vs_code_update.Reads.Post
vs_code_update κs a x y e f p q = p ∙ sym q

pub vs_code_update_rows : Means contracts.vs_code_update.ended proofs.vs_code_update.Reads.Post (λ κs a r e. UpdateRow a.0 a.1.0.now r)
vs_code_update_rows κs a r e = codes.tables.updates a.0 a.1.0.now r

abbrev pub vs_code_update_in_place_says : Says contracts.vs_code_update_in_place.ended (λ M 𝓤. contracts.vs_code_update_in_place.clauses {M = M} {𝓤 = 𝓤})
vs_code_update_in_place_says = record { claim = proofs.vs_code_update_in_place.Reads.Post; stated = λ M 𝓤 𝓛 mem run κs a g r e. refl }

pub vs_code_update_in_place : CoincideAt contracts.vs_code_update_in_place.ended Code (λ κs e. e.0.now) vs_code_update_in_place_says.claim
vs_code_update_in_place κs a x y e f p q = (p.0 ∙ sym q.0, p.1 ∙ sym q.1)

pub vs_code_update_in_place_rows : Means contracts.vs_code_update_in_place.ended vs_code_update_in_place_says.claim
    (λ κs a r e. UpdateRow a.0.now a.1.0.now (record { number = r; state = e.0.now }))
vs_code_update_in_place_rows κs a r e = taken a.0.now a.1.0.now r e.0.now

pub vs_code_finish : Coincide contracts.vs_code_finish.ended proofs.vs_code_finish.Reads.Post
vs_code_finish κs a x y e f p q = p ∙ sym q

pub vs_code_finish_rows : Means contracts.vs_code_finish.ended proofs.vs_code_finish.Reads.Post (λ κs a r e. FinishRow a.0 r)
vs_code_finish_rows κs a r e = codes.tables.finishes a.0 r

pub vs_code_of : Coincide contracts.vs_code_of.ended proofs.vs_code_of.Reads.Post
vs_code_of κs a x y e f p q = p ∙ sym q

pub vs_code_of_rows : Means contracts.vs_code_of.ended proofs.vs_code_of.Reads.Post (λ κs a r e. CodeRow a.0.now a.1.0.now r)
vs_code_of_rows κs a r e = codes.tables.codes a.0.now a.1.0.now r

pub vs_compare_code : Coincide contracts.vs_compare_code.ended proofs.vs_compare_code.Reads.Post
vs_compare_code κs a x y e f p q = p ∙ sym q

pub vs_compare_code_rows : Means contracts.vs_compare_code.ended proofs.vs_compare_code.Reads.Post
    (λ κs a r e. (d : Digest) × FinishRow a.0 d × HeldRow d a.1.0.now r)
vs_compare_code_rows κs a r e = codes.tables.compares_state a.0 a.1.0.now r

pub vs_compare_code_of : Coincide contracts.vs_compare_code_of.ended proofs.vs_compare_code_of.Reads.Post
vs_compare_code_of κs a x y e f p q = p ∙ sym q

pub vs_compare_code_of_rows : Means contracts.vs_compare_code_of.ended proofs.vs_compare_code_of.Reads.Post
    (λ κs a r e. (d : Digest) × CodeRow a.0.now a.1.0.now d × HeldRow d a.1.1.0.now r)
vs_compare_code_of_rows κs a r e = codes.tables.compares_message a.0.now a.1.0.now a.1.1.0.now r

pub vs_keyed_read : Coincide contracts.vs_keyed_read.ended proofs.vs_keyed_read.Reads.Post
vs_keyed_read κs a x y e f p q = p ∙ sym q

pub vs_keyed_read_rows : Means contracts.vs_keyed_read.ended proofs.vs_keyed_read.Reads.Post
    (λ κs a r e. Answered a.0.now a.1.0.now r.verdict r.session)
vs_keyed_read_rows κs a r e = keyed_whole a.0.now a.1.0.now r

abbrev pub vs_keyed_read_in_place_says : Says contracts.vs_keyed_read_in_place.ended (λ M 𝓤. contracts.vs_keyed_read_in_place.clauses {M = M} {𝓤 = 𝓤})
vs_keyed_read_in_place_says = record { claim = proofs.vs_keyed_read_in_place.Reads.Post; stated = λ M 𝓤 𝓛 mem run κs a g r e. refl }

pub vs_keyed_read_in_place : CoincideAt contracts.vs_keyed_read_in_place.ended Session (λ κs e. e.0.now) vs_keyed_read_in_place_says.claim
vs_keyed_read_in_place κs a x y e f p q = (p.0 ∙ sym q.0, p.1 ∙ sym q.1)

pub vs_keyed_read_in_place_rows : Means contracts.vs_keyed_read_in_place.ended vs_keyed_read_in_place_says.claim
    (λ κs a r e. Answered a.1.0.now a.1.1.0.now r e.0.now)
vs_keyed_read_in_place_rows κs a r e = keyed.answers a.1.0.now a.1.1.0.now r e.0.now

pub vs_update_in_place_means : Means contracts.vs_update_in_place.ended vs_update_in_place_says.claim
    (λ κs a r e. (r ≡ (updated a.0.now a.1.0.now).number) × (e.0.now ≡ (updated a.0.now a.1.0.now).state))
vs_update_in_place_means κs a r e = Iff.rfl

pub vs_fresh_means : Answers contracts.vs_fresh.ended proofs.vs_fresh.Reads.Post (λ κs a. fresh)
vs_fresh_means κs a r e = Iff.rfl

pub vs_update_means : Answers contracts.vs_update.ended proofs.vs_update.Reads.Post (λ κs a. updated a.0 a.1.0.now)
vs_update_means κs a r e = Iff.rfl

pub vs_finish_means : Answers contracts.vs_finish.ended proofs.vs_finish.Reads.Post (λ κs a. finished a.0)
vs_finish_means κs a r e = Iff.rfl

pub vs_digest_of_means : Answers contracts.vs_digest_of.ended proofs.vs_digest_of.Reads.Post (λ κs a. digest a.0.now)
vs_digest_of_means κs a r e = Iff.rfl

pub vs_compare_message_means : Answers contracts.vs_compare_message.ended proofs.vs_compare_message.Reads.Post
    (λ κs a. compare_message a.0.now a.1.0.now)
vs_compare_message_means κs a r e = Iff.rfl

pub vs_compare_state_means : Answers contracts.vs_compare_state.ended proofs.vs_compare_state.Reads.Post (λ κs a. compare_state a.0 a.1.0.now)
vs_compare_state_means κs a r e = Iff.rfl

pub vs_pad_write_means : Means contracts.vs_pad_write.ended proofs.vs_pad_write.Reads.Post
    (λ κs a r e. (r ≡ written a.0.now a.1.0.now) × (e.1.0.now ≡ buffer_after a.0.now a.1.0.now))
vs_pad_write_means κs a r e = Iff.rfl

pub vs_block_number_means : Answers contracts.vs_block_number.ended proofs.vs_block_number.Reads.Post
    (λ κs a. view_number a.0.now a.1.0.now a.1.1.0)
vs_block_number_means κs a r e = Iff.rfl

pub vs_block_part_means : Answers contracts.vs_block_part.ended proofs.vs_block_part.Reads.Post
    (λ κs a. view_place a.0.now a.1.0.now a.1.1.0)
vs_block_part_means κs a r e = Iff.rfl

pub vs_remove_number_means : Answers contracts.vs_remove_number.ended proofs.vs_remove_number.Reads.Post (λ κs a. remove_number a.0.now)
vs_remove_number_means κs a r e = Iff.rfl

pub vs_remove_part_means : Answers contracts.vs_remove_part.ended proofs.vs_remove_part.Reads.Post (λ κs a. remove_length a.0.now)
vs_remove_part_means κs a r e = Iff.rfl
