-- What the words of this crate's theorems give, spelled out. Assumes nothing.
use Prim.Native.Nat.{ℕ}
use mathlib.Core.Path.{◌≡◌}
use mathlib.Core.Logic.{◌↔◌}
use mathlib.Core.List.{List}
use seplogic.Ra.Ura.{Ura}
use base.Logic.{SProp}
use contract.Lifetimes.{Lfts}
use contract.Monad.{Fun, fact}
use prog.Memory.{Memory}
use prog.Routine.{Routine}
use types.Logic.{Logic}
use denote.Ref.{Bor}
use denote.Triple.Entry.{Args, Res}
use denote.Triple.Clauses.{Ended, Clauses, AtExit}
use Rattle.coincide.specs.Coincide.{Claim, Left, Coincide, CoincideAt, Means, Answer, Answers, PartsCoincide, Says}

pub means_is : (T : Ended) (claim says : Claim T) → Means T claim says
    → (κs : Lfts T.signature.lifetimes) (a : Args T.signature κs) (r : Res T.signature κs) (e : AtExit T κs)
    → claim κs a r e ↔ says κs a r e
means_is T claim says m = m

pub coincide_is : (T : Ended) (claim : Claim T) → Coincide T claim
    → (κs : Lfts T.signature.lifetimes) (a : Args T.signature κs) (x y : Res T.signature κs) (e f : AtExit T κs)
    → claim κs a x e → claim κs a y f → x ≡ y
coincide_is T claim c = c

pub coincide_at_is : (T : Ended) (B : Type 0) (left : Left T B) (claim : Claim T) → CoincideAt T B left claim
    → (κs : Lfts T.signature.lifetimes) (a : Args T.signature κs) (x y : Res T.signature κs) (e f : AtExit T κs)
    → claim κs a x e → claim κs a y f → (x ≡ y) × (left κs e ≡ left κs f)
coincide_at_is T B left claim c = c

pub says_is : (T : Ended)
    (clauses : (M : Type 1) (𝓤 : Ura M) (𝓛 : Logic 𝓤) → (Memory → SProp 𝓤) → (Routine → Fun 𝓤) → Clauses 𝓤 T)
    (s : Says T clauses)
    (M : Type 1) (𝓤 : Ura M) (𝓛 : Logic 𝓤) (mem : Memory → SProp 𝓤) (run : Routine → Fun 𝓤)
    (κs : Lfts T.signature.lifetimes) (a : Args T.signature κs) (g : (clauses M 𝓤 𝓛 mem run κs a).ghost)
    (r : Res T.signature κs) (e : AtExit T κs)
    → (clauses M 𝓤 𝓛 mem run κs a).ensures g r e ≡ fact 𝓤 (s.claim κs a r e)
says_is T clauses s = s.stated

pub parts_coincide_is : (T : Ended) (part : (κs : Lfts T.signature.lifetimes) → Res T.signature κs → Bor (List ℕ)) (claim : Claim T)
    → PartsCoincide T part claim
    → (κs : Lfts T.signature.lifetimes) (a : Args T.signature κs) (x y : Res T.signature κs) (e f : AtExit T κs)
    → claim κs a x e → claim κs a y f → ((part κs x).now ≡ (part κs y).now) × ((part κs x).ref_ptr ≡ (part κs y).ref_ptr)
parts_coincide_is T part claim c = c

pub answers_is : (T : Ended) (claim : Claim T) (answer : Answer T) → Answers T claim answer
    → (κs : Lfts T.signature.lifetimes) (a : Args T.signature κs) (r : Res T.signature κs) (e : AtExit T κs)
    → claim κs a r e ↔ (r ≡ answer κs a)
answers_is T claim answer m = m
