-- Where a contract is one answer, any two results that meet it coincide. Assumes nothing.
use mathlib.Core.Path.{◌∙◌, sym}
use denote.Triple.Clauses.{Ended}
use Rattle.coincide.specs.Coincide.{Claim, Answer, Answers, Coincide}

pub answers_coincide : (T : Ended) (claim : Claim T) (answer : Answer T) → Answers T claim answer → Coincide T claim
answers_coincide T claim answer means κs a x y e f p q = (means κs a x e).0 p ∙ sym ((means κs a y f).0 q)
