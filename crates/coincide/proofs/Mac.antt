-- `mac`: any two results that meet a contract coincide; and a contract is a row of its table, of its own arguments. Assumes nothing.
use mathlib.Core.Path.{◌≡◌, sym, ◌∙◌}
use mathlib.Core.List.{[]}
use mathlib.Core.Logic.Iff
use mathlib.Core.Bool.{true}
use mathlib.Core.Logic.{◌↔◌}
use Rattle.hash.specs.declared.Digest.{Digest}
use Rattle.hash.specs.Told.{told_digest, compared_of}
use Rattle.hash.proofs.Proved.{proved as hashes}
use Rattle.mac.specs.Codes.{started}
use Rattle.mac.specs.Told.{code_updated_of}
use Rattle.mac.specs.Promises.{StartRow, Ordered, UpdateRow, FinishRow, CodeRow, HeldRow}
use Rattle.mac.proofs.Proved.{proved as codes}
use Rattle.coincide.proofs.Tells.{tells}
use Rattle.coincide.specs.Coincide.{Coincide, Means}
use Rattle.mac.specs.contracts
use Rattle.mac.proofs

pub start : Coincide contracts.start.ended proofs.start.Reads.Post
start κs a x y e f p q = codes.all_updated (started []) x y (p ∙ sym q)

pub start_rows : Means contracts.start.ended proofs.start.Reads.Post (λ κs a r e. StartRow a.0.now (code_updated_of (started []) r))
start_rows κs a r e = codes.tables.starts a.0.now (code_updated_of (started []) r)

pub Code-in_order : Coincide contracts.Code.in_order.ended proofs.Code.in_order.Reads.Post
Code-in_order κs a x y e f p q = p ∙ sym q

pub Code-in_order_means : Means contracts.Code.in_order.ended proofs.Code.in_order.Reads.Post (λ κs a r e. (r ≡ true) ↔ Ordered a.0)
Code-in_order_means κs a r e = tells _ r (codes.in_order_lem a.0)

pub Code-update : Coincide contracts.Code.update.ended proofs.Code.update.Reads.Post
Code-update κs a x y e f p q = codes.all_updated a.0 x y (p ∙ sym q)

pub Code-update_rows : Means contracts.Code.update.ended proofs.Code.update.Reads.Post (λ κs a r e. UpdateRow a.0 a.1.0.now (code_updated_of a.0 r))
Code-update_rows κs a r e = codes.tables.updates a.0 a.1.0.now (code_updated_of a.0 r)

pub Code-finish : Coincide contracts.Code.finish.ended proofs.Code.finish.Reads.Post
Code-finish κs a x y e f p q = hashes.all_digested x y (p ∙ sym q)

pub Code-finish_rows : Means contracts.Code.finish.ended proofs.Code.finish.Reads.Post (λ κs a r e. FinishRow a.0 (told_digest r))
Code-finish_rows κs a r e = codes.tables.finishes a.0 (told_digest r)

pub Code-matches : Coincide contracts.Code.matches.ended proofs.Code.matches.Reads.Post
Code-matches κs a x y e f p q = hashes.all_compared x y (p ∙ sym q)

pub Code-matches_rows : Means contracts.Code.matches.ended proofs.Code.matches.Reads.Post
    (λ κs a r e. (d : Digest) × FinishRow a.0 d × HeldRow d a.1.0.now (compared_of r))
Code-matches_rows κs a r e = codes.tables.compares_state a.0 a.1.0.now (compared_of r)

pub code_of : Coincide contracts.code_of.ended proofs.code_of.Reads.Post
code_of κs a x y e f p q = hashes.all_digested x y (p ∙ sym q)

pub code_of_rows : Means contracts.code_of.ended proofs.code_of.Reads.Post (λ κs a r e. CodeRow a.0.now a.1.0.now (told_digest r))
code_of_rows κs a r e = codes.tables.codes a.0.now a.1.0.now (told_digest r)

pub matches : Coincide contracts.matches.ended proofs.matches.Reads.Post
matches κs a x y e f p q = hashes.all_compared x y (p ∙ sym q)

pub matches_rows : Means contracts.matches.ended proofs.matches.Reads.Post
    (λ κs a r e. (d : Digest) × CodeRow a.0.now a.1.0.now d × HeldRow d a.1.1.0.now (compared_of r))
matches_rows κs a r e = codes.tables.compares_message a.0.now a.1.0.now a.1.1.0.now (compared_of r)

pub CodeUpdated-told : Coincide contracts.CodeUpdated.told.ended proofs.CodeUpdated.told.Reads.Post
CodeUpdated-told κs a x y e f p q = p ∙ sym q

pub CodeUpdated-told_means : Means contracts.CodeUpdated.told.ended proofs.CodeUpdated.told.Reads.Post
    (λ κs a r e. r ≡ code_updated_of a.0 a.1.0)
CodeUpdated-told_means κs a r e = Iff.rfl

pub CodeUpdated-started : Coincide contracts.CodeUpdated.started.ended proofs.CodeUpdated.started.Reads.Post
CodeUpdated-started κs a x y e f p q = p ∙ sym q

pub CodeUpdated-started_rows : Means contracts.CodeUpdated.started.ended proofs.CodeUpdated.started.Reads.Post
    (λ κs a r e. StartRow a.0.now r)
CodeUpdated-started_rows κs a r e = codes.tables.starts a.0.now r
