-- `rules`: any two results that meet a contract coincide; and a contract is what is promised, of its own arguments. Assumes nothing.
use mathlib.Core.Path.{◌≡◌, sym, ◌∙◌}
use mathlib.Core.Bool.{true}
use mathlib.Core.Logic.Iff
use mathlib.Core.Logic.{◌↔◌}
use Prim.Native.Nat.{◌≤◌, ◌<◌, ◌/◌, ◌%◌}
use Rattle.rules.specs.Promises.{Obeyed}
use Rattle.rules.proofs.Proved.{proved as rules}
use Rattle.coincide.proofs.Tells.{tells}
use Rattle.rules.specs.Rules.{zero_record}
use Rattle.coincide.specs.Coincide.{Coincide, Means, Answers}
use Rattle.rules.specs.contracts
use Rattle.rules.proofs

pub count_rule : Coincide contracts.count_rule.ended proofs.count_rule.Reads.Post
count_rule κs a x y e f p q = p ∙ sym q

pub is_note : Coincide contracts.is_note.ended proofs.is_note.Reads.Post
is_note κs a x y e f p q = p ∙ sym q

pub note_rule : Coincide contracts.note_rule.ended proofs.note_rule.Reads.Post
note_rule κs a x y e f p q = p ∙ sym q

pub length_rule : Coincide contracts.length_rule.ended proofs.length_rule.Reads.Post
length_rule κs a x y e f p q = p ∙ sym q

pub loop_rule : Coincide contracts.loop_rule.ended proofs.loop_rule.Reads.Post
loop_rule κs a x y e f p q = p ∙ sym q

pub good_length : Coincide contracts.good_length.ended proofs.good_length.Reads.Post
good_length κs a x y e f p q = p ∙ sym q

pub good_loop : Coincide contracts.good_loop.ended proofs.good_loop.Reads.Post
good_loop κs a x y e f p q = p ∙ sym q

pub obeys : Coincide contracts.obeys.ended proofs.obeys.Reads.Post
obeys κs a x y e f p q = p ∙ sym q

-- 1..32
pub count_rule_means : Means contracts.count_rule.ended proofs.count_rule.Reads.Post (λ κs a r e. (r ≡ true) ↔ ((1 ≤ a.0) × (a.0 ≤ 32)))
count_rule_means κs a r e = tells _ r (rules.counts _)

pub is_note_means : Means contracts.is_note.ended proofs.is_note.Reads.Post (λ κs a r e. (r ≡ true) ↔ ((1 ≤ a.0) × (a.0 ≤ 32)))
is_note_means κs a r e = tells _ r (rules.numbers _)

-- the note before, and a note: in this order
pub note_rule_means : Means contracts.note_rule.ended proofs.note_rule.Reads.Post
    (λ κs a r e. (r ≡ true) ↔ ((1 ≤ a.1.0) × (a.1.0 ≤ 32) × (a.0 < a.1.0)))
note_rule_means κs a r e = tells _ r (rules.notes _ _)

pub length_rule_means : Means contracts.length_rule.ended proofs.length_rule.Reads.Post
    (λ κs a r e. (r ≡ true) ↔ ((a.0.0 % 2 ≡ 0) × (2 ≤ a.0.0) × (a.0.0 ≤ 4294967294)))
length_rule_means κs a r e = tells _ r (rules.lengths _)

-- length, start, end: in this order
pub loop_rule_means : Means contracts.loop_rule.ended proofs.loop_rule.Reads.Post
    (λ κs a r e. (r ≡ true) ↔ ((a.1.0.0 ≤ a.1.1.0.0) × (a.1.1.0.0 < a.0.0 / 2)))
loop_rule_means κs a r e = tells _ r (rules.loops _ _ _)

pub good_length_means : Means contracts.good_length.ended proofs.good_length.Reads.Post
    (λ κs a r e. (r ≡ true) ↔ ((a.0.length % 2 ≡ 0) × (2 ≤ a.0.length) × (a.0.length ≤ 4294967294)))
good_length_means κs a r e = tells _ r (rules.lengths _)

pub good_loop_means : Means contracts.good_loop.ended proofs.good_loop.Reads.Post
    (λ κs a r e. (r ≡ true) ↔ ((a.0.loop_start ≤ a.0.loop_end) × (a.0.loop_end < a.0.length / 2)))
good_loop_means κs a r e = tells _ r (rules.loops _ _ _)

pub obeys_means : Means contracts.obeys.ended proofs.obeys.Reads.Post (λ κs a r e. (r ≡ true) ↔ Obeyed a.0)
obeys_means κs a r e = tells _ r (rules.obeyed _)

pub zero_record_means : Answers contracts.zero_record.ended proofs.zero_record.Reads.Post (λ κs a. zero_record)
zero_record_means κs a r e = Iff.rfl
