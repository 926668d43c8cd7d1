-- "Any two results that satisfy it are shown to coincide" (document 01, "How tight the promises are"): of a function's contract, as the
-- kit generates it.
use Rattle.std.specs.Prelude.{ℕ, ◌≡◌, ◌↔◌, List}
use seplogic.Ra.Ura.{Ura}
use base.Logic.{SProp}
use contract.Lifetimes.{Lfts}
use contract.Monad.{Fun, fact}
use prog.Memory.{Memory}
use prog.Routine.{Routine}
use types.Logic.{Logic}
use Rattle.std.specs.Borrow.{Bor}
use denote.Triple.Entry.{Args, Res}
use denote.Triple.Clauses.{Ended, Clauses, AtExit}

-- a claim of a function's lifetimes, arguments, result and parameters at exit
abbrev pub Claim : Ended → Type 1
Claim T = (κs : Lfts T.signature.lifetimes) → Args T.signature κs → Res T.signature κs → AtExit T κs → Type 0

-- what is left behind in what was lent by `&mut`: a part of the parameters at exit
abbrev pub Left : Ended → Type 0 → Type 0
Left T B = (κs : Lfts T.signature.lifetimes) → AtExit T κs → B

-- two results that meet the claim for the same arguments are one
abbrev pub Coincide : (T : Ended) → Claim T → Type 0
Coincide T claim =
    (κs : Lfts T.signature.lifetimes) (a : Args T.signature κs) (x y : Res T.signature κs) (e f : AtExit T κs)
    → claim κs a x e → claim κs a y f
    → x ≡ y

-- and so is what is left behind
abbrev pub CoincideAt : (T : Ended) (B : Type 0) → Left T B → Claim T → Type 0
CoincideAt T B left claim =
    (κs : Lfts T.signature.lifetimes) (a : Args T.signature κs) (x y : Res T.signature κs) (e f : AtExit T κs)
    → claim κs a x e → claim κs a y f
    → (x ≡ y) × (left κs e ≡ left κs f)

-- what meets the claim is just what another says: a relation that the promises pin, so that the contract cites what they speak of, and of
-- what it was lent
abbrev pub Means : (T : Ended) → (claim says : Claim T) → Type 0
Means T claim says =
    (κs : Lfts T.signature.lifetimes) (a : Args T.signature κs) (r : Res T.signature κs) (e : AtExit T κs)
    → claim κs a r e ↔ says κs a r e

-- an answer that is worked out from the arguments
abbrev pub Answer : Ended → Type 0
Answer T = (κs : Lfts T.signature.lifetimes) → Args T.signature κs → Res T.signature κs

-- what meets the claim is just this answer: then two results that meet it are one (`answers_coincide`)
abbrev pub Answers : (T : Ended) → Claim T → Answer T → Type 0
Answers T claim answer = Means T claim (λ κs a r e. r ≡ answer κs a)

-- where the result is a part of what was lent: its bytes and its address
abbrev pub PartsCoincide : (T : Ended) → ((κs : Lfts T.signature.lifetimes) → Res T.signature κs → Bor (List ℕ)) → Claim T → Type 0
PartsCoincide T part claim =
    (κs : Lfts T.signature.lifetimes) (a : Args T.signature κs) (x y : Res T.signature κs) (e f : AtExit T κs)
    → claim κs a x e → claim κs a y f
    → ((part κs x).now ≡ (part κs y).now) × ((part κs x).ref_ptr ≡ (part κs y).ref_ptr)

-- the clauses of a contract: in every model of the logic they are the fact of one claim
pub record Says (T : Ended)
    (clauses : (M : Type 1) (𝓤 : Ura M) (𝓛 : Logic 𝓤) → (Memory → SProp 𝓤) → (Routine → Fun 𝓤) → Clauses 𝓤 T) : Type 3 where
  pub claim : Claim T
  pub stated :
      (M : Type 1) (𝓤 : Ura M) (𝓛 : Logic 𝓤) (mem : Memory → SProp 𝓤) (run : Routine → Fun 𝓤)
      (κs : Lfts T.signature.lifetimes) (a : Args T.signature κs) (g : (clauses M 𝓤 𝓛 mem run κs a).ghost)
      (r : Res T.signature κs) (e : AtExit T κs)
      → (clauses M 𝓤 𝓛 mem run κs a).ensures g r e ≡ fact 𝓤 (claim κs a r e)
