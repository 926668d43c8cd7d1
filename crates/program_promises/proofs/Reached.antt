-- A session that was loaded is one that deliveries led to. Assumes nothing.
use Prim.Native.Nat.{ℕ}
use mathlib.Core.Path.{◌≡◌, refl, sym, ap, ◌∙◌}
use mathlib.Core.List.{List, [], ◌∷◌, ◌++◌}
use Rattle.session.specs.Operations.{Operation, delivery, deliver, perform}
use Rattle.session.specs.declared.Session.{Session}
use Rattle.session.specs.declared.Delivered.{Delivered}
use Rattle.session.proofs.Proved.{proved}
use Rattle.promises.specs.Sequences.{after}
use Rattle.loader.specs.Loading.{FedWhole, begun, whole, Fed, even, shorter, NoteLoaded, listed, passed, LoadedTo, none, next}

pub record Reached (s t : Session) : Type 0 where
  pub deliveries : List Operation
  pub reached : t ≡ after s deliveries

after_append : (s : Session) (one other : List Operation) → after s (one ++ other) ≡ after (after s one) other
unfolding after
after_append s [] other = refl
after_append s (o ∷ one) other = after_append (perform s o).session one other

stay : (s : Session) → Reached s s
unfolding after
stay s = record { deliveries = []; reached = refl }

join : (s t u : Session) → Reached s t → Reached t u → Reached s u
join s t u a b =
    record {
      deliveries = a.deliveries ++ b.deliveries;
      reached = b.reached ∙ ap (λ (x : Session). after x b.deliveries) a.reached ∙ sym (after_append s a.deliveries b.deliveries);
    }

one : (s : Session) (note : ℕ) (piece : List ℕ) → Reached s (deliver s note piece).session
unfolding after
one s note piece =
    record { deliveries = delivery note piece ∷ []; reached = ap (λ (d : Delivered). d.session) (sym (proved.delivers s note piece)) }

whole_reached : (note : ℕ) (s t : Session) → FedWhole note s t → Reached s t
whole_reached note s t begun = stay s
whole_reached note s t (whole {t = u} w piece full good) = join s u (deliver u note piece).session (whole_reached note s u w) (one u note piece)

fed_reached : (note : ℕ) (s t : Session) → Fed note s t → Reached s t
fed_reached note s t (even w) = whole_reached note s t w
fed_reached note s t (shorter {t = u} w piece some less good) =
    join s u (deliver u note piece).session (whole_reached note s u w) (one u note piece)

note_reached : (note : ℕ) (s t : Session) → NoteLoaded note s t → Reached s t
note_reached note s t (listed good fed) = fed_reached note s t fed
note_reached note s t (passed bad) = stay s

pub loaded_reached : (s t : Session) (n : ℕ) → LoadedTo s n t → Reached s t
loaded_reached s t n none = stay s
loaded_reached s t n (next {n = m} {t = u} {u = v} before l) = join s u v (loaded_reached s u m before) (note_reached _ u v l)
