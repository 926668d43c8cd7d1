-- `session`: any two results that meet a contract coincide; and a contract is what is promised, of its own arguments. Assumes nothing.
use Prim.Native.Nat.{ℕ}
use mathlib.Core.Path.{◌≡◌, sym, ap, ◌∙◌}
use mathlib.Core.Bool.{true}
use mathlib.Core.Logic.Iff
use mathlib.Core.Logic.{◌↔◌}
use mathlib.Core.List.{List, []}
use Rattle.slots.specs.declared.Answer.{Answer}
use Rattle.session.specs.Sessions.{empty_session as none_listed, slot_index}
use Rattle.session.specs.Operations.{deliver}
use Rattle.session.specs.Light.{ready}
use Rattle.session.specs.Promises.{OpenCount, Row, AskRow}
use Rattle.session.specs.declared.Session.{Session}
use Rattle.session.specs.declared.Delivered.{Delivered}
use Rattle.session.proofs.Proved.{proved as session}
use Rattle.sheet_promises.specs.Promises.{Lists}
use Rattle.sheet_promises.proofs.Listing.{lists_none}
use Rattle.sheet_promises.proofs.Proved.{proved as sheets}
use Rattle.coincide.proofs.Tells.{tells}
use Rattle.coincide.specs.Coincide.{Coincide, Means, Answers}
use Rattle.session.specs.contracts
use Rattle.session.proofs

pub empty_session : Coincide contracts.empty_session.ended proofs.empty_session.Reads.Post
empty_session κs a x y e f p q = p ∙ sym q

-- a session with no note listed, both counts 0, and no other
pub none_means : (s : Session) → (s ≡ none_listed) ↔ Lists s []
none_means s = (λ e. rw e lists_none, λ l. sheets.one_session s none_listed [] l lists_none)

pub empty_session_means : Means contracts.empty_session.ended proofs.empty_session.Reads.Post (λ κs a r e. Lists r [])
empty_session_means κs a r e = none_means r

pub Session-deliver : Coincide contracts.Session.deliver.ended proofs.Session.deliver.Reads.Post
Session-deliver κs a x y e f p q = p ∙ sym q

pub Session-deliver_rows : Means contracts.Session.deliver.ended proofs.Session.deliver.Reads.Post (λ κs a r e. Row a.0 a.1.0 a.1.1.0.now r)
Session-deliver_rows κs a r e = session.table a.0 a.1.0 a.1.1.0.now r

-- an answer and a session, each by itself
pub delivered : (s : Session) (note : ℕ) (piece : List ℕ) (answer : Answer) (t : Session)
    → ((answer ≡ (deliver s note piece).answer) × (t ≡ (deliver s note piece).session)) ↔ Row s note piece (record { answer = answer; session = t })
delivered s note piece answer t =
    let rows = session.table s note piece (record { answer = answer; session = t }) in (
      λ p. rows.0 (λ i. record { answer = p.0 i; session = p.1 i }),
      λ row. (ap (λ (d : Delivered). d.answer) (rows.1 row), ap (λ (d : Delivered). d.session) (rows.1 row)),
    )

pub Session-ask : Coincide contracts.Session.ask.ended proofs.Session.ask.Reads.Post
Session-ask κs a x y e f p q = p ∙ sym q

pub Session-ask_rows : Means contracts.Session.ask.ended proofs.Session.ask.Reads.Post (λ κs a r e. AskRow a.0 a.1.0 r)
Session-ask_rows κs a r e = session.ask_table a.0 a.1.0 r

pub open_after : Coincide contracts.open_after.ended proofs.open_after.Reads.Post
open_after κs a x y e f p q = p ∙ sym q

pub open_after_means : Means contracts.open_after.ended proofs.open_after.Reads.Post (λ κs a r e. OpenCount a.0 a.1.0 a.1.1.0 r)
open_after_means κs a r e = session.open_count a.0 a.1.0 a.1.1.0 r

pub all_open : Coincide contracts.all_open.ended proofs.all_open.Reads.Post
all_open κs a x y e f p q = p ∙ sym q

pub all_open_means : Means contracts.all_open.ended proofs.all_open.Reads.Post (λ κs a r e. (r ≡ true) ↔ ((a.0 ≡ a.1.0) × (a.1.0 ≡ 0 → ⊥)))
all_open_means κs a r e = tells _ r (session.lights a.0 a.1.0)

pub Session-ready : Coincide contracts.Session.ready.ended proofs.Session.ready.Reads.Post
Session-ready κs a x y e f p q = p ∙ sym q

-- the light tells, of a session, that its counts are equal and not zero
pub lit_means : (s : Session) → (ready s ≡ true) ↔ ((s.listed ≡ s.opened) × (s.opened ≡ 0 → ⊥))
lit_means s = rw (session.ready_by s) (session.lights s.listed s.opened)

pub Session-ready_means : Means contracts.Session.ready.ended proofs.Session.ready.Reads.Post
    (λ κs a r e. (r ≡ true) ↔ ((a.0.listed ≡ a.0.opened) × (a.0.opened ≡ 0 → ⊥)))
Session-ready_means κs a r e = tells _ r (lit_means a.0)

pub slot_index_means : Answers contracts.slot_index.ended proofs.slot_index.Reads.Post (λ κs a. slot_index a.0)
slot_index_means κs a r e = Iff.rfl
