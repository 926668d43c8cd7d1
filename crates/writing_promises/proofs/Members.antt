-- Members of lists of entries, and lists whose notes rise. Assumes nothing.
use Prim.Native.Nat.{ℕ, ◌≤◌, ◌<◌}
use mathlib.Core.Path.{◌≡◌, refl, sym, ap, ◌∙◌}
use mathlib.Core.Logic.{◌⊎◌, inl, inr, ⊎_elim, ⊎_map}
use mathlib.Core.List.{List, [], ◌∷◌, ◌++◌}
use native.Mathlib.Omega.{arith}
use lib.ListN.{length}
use Rattle.lines.specs.declared.Entry.{Entry}
use Rattle.sheet_promises.specs.Grammar.{ObeysRules, AllObey, no_entry_lem, entry}
use Rattle.sheet_promises.specs.Promises.{Among, first, further}
use Rattle.sheet_promises.proofs.Listing.{above}

-- the empty list has no member
pub some : {e : Entry} {es : List Entry} → Among e es → 1 ≤ length es
some first = omega arith
some (further a) = omega arith

pub not_in_none : {e : Entry} → Among e [] → ⊥
not_in_none a = let one = some a in omega arith

-- a member is the first one or a further one; of a list of one it is that one
here_or_further : {e d : Entry} {es : List Entry} → Among e (d ∷ es) → (e ≡ d) ⊎ Among e es
here_or_further first = inl refl
here_or_further (further a) = inr a

pub the_one : {e d : Entry} → Among e (d ∷ []) → e ≡ d
the_one a = ⊎_elim (λ e. e) (λ b. absurd (not_in_none b)) (here_or_further a)

-- members of two lists, one behind the other
pub in_front : {e : Entry} {es : List Entry} (others : List Entry) → Among e es → Among e (es ++ others)
in_front others first = first
in_front others (further a) = further (in_front others a)

pub behind : {e : Entry} (es : List Entry) {others : List Entry} → Among e others → Among e (es ++ others)
behind [] a = a
behind (d ∷ es) a = further (behind es a)

pub front_or_behind : {e : Entry} (es : List Entry) {others : List Entry} → Among e (es ++ others) → Among e es ⊎ Among e others
front_or_behind [] a = inr a
front_or_behind (d ∷ es) first = inl first
front_or_behind (d ∷ es) (further a) = ⊎_map (λ b. further b) (λ b. b) (front_or_behind es a)

-- one entry more, above all
pub one_more : (last : ℕ) (es : List Entry) (d : Entry) → AllObey last es
    → last < d.note → ((e : Entry) → Among e es → e.note < d.note) → ((m : ℕ) → m < d.note → ObeysRules m d)
    → AllObey last (es ++ (d ∷ []))
one_more last es d no_entry_lem low under obeys = entry (obeys last low) no_entry_lem
one_more last es d (entry {e = e} {es = more} o os) low under obeys =
    entry o (one_more e.note more d os (under e first) (λ c a. under c (further a)) obeys)

-- two lists that obey the rules and have the same members are one
abbrev Within : (es others : List Entry) → Type 0
Within es others = (e : Entry) → Among e es → Among e others

-- their first entries are the same, since each is below the further ones
module _ (e d : Entry) (es ds : List Entry) (os : AllObey e.note es) (ps : AllObey d.note ds) where
  same_first : Within (e ∷ es) (d ∷ ds) → Within (d ∷ ds) (e ∷ es) → e ≡ d
  same_first f g =
      ⊎_elim
      (λ is. is)
      (λ a.
      ⊎_elim
      sym
      (λ b. let up = above d.note ds ps e a in let down = above e.note es os d b in absurd (omega arith))
      (here_or_further (g d first)))
      (here_or_further (f e first))

  further_only : e ≡ d → Within (e ∷ es) (d ∷ ds) → Within es ds
  further_only same f c a =
      ⊎_elim
      (λ is. let up = above e.note es os c a in let note = ap (λ (x : Entry). x.note) (is ∙ sym same) in absurd (omega arith))
      (λ b. b)
      (here_or_further (f c (further a)))

both_same : {e d : Entry} {es ds : List Entry} → e ≡ d → es ≡ ds → (e ∷ es) ≡ (d ∷ ds)
both_same p q = λ i. p i ∷ q i

pub same_list : (last other : ℕ) (es others : List Entry) → AllObey last es → AllObey other others
    → Within es others → Within others es → es ≡ others
same_list last other es others no_entry_lem no_entry_lem f g = refl
same_list last other es others no_entry_lem (entry {e = d} p ps) f g = absurd (not_in_none (g d first))
same_list last other es others (entry {e = e} o os) no_entry_lem f g = absurd (not_in_none (f e first))
same_list last other es others (entry {e = e} {es = more} o os) (entry {e = d} {es = rest} p ps) f g =
    let same = same_first e d more rest os ps f g in
    both_same same
    (same_list e.note d.note more rest os ps (further_only e d more rest os ps same f) (further_only d e rest more ps os (sym same) g))
