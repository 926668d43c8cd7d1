-- A note that is not listed stays so, from any session.
use mathlib.Core.Path.{◌≡◌, refl, ◌∙◌}
use mathlib.Core.List.{List, [], ◌∷◌}
use mathlib.Core.Bool.{Bool, true, false}
use Prim.Native.Nat.{ℕ}
use lib.Dec.{eqb}
use Rattle.session.specs.Operations.{Operation, note_of, doing, deliver, perform}
use Rattle.slots.specs.Delivery.{bare_refusal, deliver_to, is_listed}
use Rattle.slots.proofs.Listed.{at_unlisted, ask_at_unlisted}
use Rattle.session.specs.declared.Session.{Session}
use Rattle.promises.specs.Sequences.{after}
use Rattle.session.specs.Promises.{Unlisted}
use Rattle.promises.specs.Demand3.{NotListed}
use Rattle.promises.proofs.OneNote.{view, omitted, asks, own, unchanged, parts}
use Rattle.promises.proofs.Reordering.{own_step, other_step}

module _ (note : ℕ) where
  one_operation : (s : Session) (o : Operation) → is_listed (view s note) note ≡ false → view (perform s o).session note ≡ view s note
  one_operation s o h = go (eqb (note_of o) note) refl
    where
      go : (t : Bool) → eqb (note_of o) note ≡ t → view (perform s o).session note ≡ view s note
      go true e = (own_step s note o e).1 ∙ rw (at_unlisted (view s note) note (doing o) h)
      go false e = other_step s note o e

  any_operations : (s : Session) (os : List Operation) → is_listed (view s note) note ≡ false → is_listed (view (after s os) note) note ≡ false
  unfolding after
  any_operations s [] h = h
  any_operations s (o ∷ os) h = any_operations (perform s o).session os (rw (one_operation s o h) h)

  pub not_listed : (s : Session) → is_listed (view s note) note ≡ false → NotListed s note
  unfolding deliver bare_refusal
  not_listed s h =
      record {
        asked = asks s note ∙ ask_at_unlisted (view s note) note h;
        refused =
            λ p.
            let e = at_unlisted (view s note) note (λ slot. deliver_to slot p) h in
            parts
            ((own s note (λ slot. deliver_to slot p)).0 ∙ rw e)
            (unchanged s note (λ slot. deliver_to slot p) (rw e));
      }

pub unlisted_stays : (s : Session) (note : ℕ) → Unlisted s note → (os : List Operation) → NotListed (after s os) note
unlisted_stays s note o os = not_listed note (after s os) (any_operations note s os (omitted s note o))
