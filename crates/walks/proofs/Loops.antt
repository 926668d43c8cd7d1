-- A loop in a walk: what its turns change stands in one entry at the head of the context, and the rest of the context is what the walk has where it comes to the loop.
--     held, hold       the entry `some x, with what is known of x`, opened and made
--     turning          the loop: each turn leaves it, or ends with that entry at a smaller number
--     once_more        how a turn ends
--     tests            the test of a `while`
--     after, env_of     the statements after the first, and the locals' places: a walk takes both out of the generated code
-- Assumes `Logic`, and a `Tables`. A proof with a loop says `unfolding after_turn`.
use mathlib.Core.Path.{◌≡◌, refl}
use Prim.Native.Nat.{ℕ, ◌<◌}
use mathlib.Core.Bool.{Bool, true, false}
use mathlib.Core.List.{List, [], ◌∷◌}
use lib.WfN.{lt-wf_rel}
use seplogic.Ra.Ura.{Ura}
use mir.Syntax.{Ty, Local, local, Opd as Operand, Body, skip, seq, assign, block, loop, cond, switch, exit, return, call, unreachable, call_v, lend_static}
use mir.Val.{vbool}
use base.Logic.{SProp, via, guard, guard_i, ex_i}
use prog.Wp.{Env, Calls, Loops, Tables, after_turn, exits}
use types.Logic.{Logic}
use types.Kit.{Item, Goal, Post, any_q, post, Seq, Step, runs, prop, mean, some, given, ◌$◌, pick, learn, use1}
use types.Run.{Opd, Below, loops, again, stays, leaves_loop}

-- the statements after the first
abbrev pub after : Body → Body
after skip = skip
after (seq a b) = b
after (assign p rv) = skip
after (block b) = skip
after (loop b) = skip
after (cond c a b) = skip
after (switch c arms) = skip
after (exit n) = skip
after return = skip
after (call f xs d) = skip
after unreachable = skip
after (call_v f s xs d) = skip
after (lend_static p t c) = skip

abbrev pub env_of : List Local → List ℕ → List (Ty × ℕ)
env_of [] ns = []
env_of (l ∷ ls) [] = []
env_of (local τ h ∷ ls) (n ∷ ns) = (τ, n) ∷ env_of ls ns

module _ {M : Type 1} (𝓤 : Ura M) {X : Type 0} (F : X → Type 0) (i : X → Item 𝓤) where
  -- some x, with what is known of it
  abbrev pub Some : Item 𝓤
  Some = some (λ x. given (F x) (i x))

module _ {M : Type 1} {𝓤 : Ura M} {𝓛 : Logic 𝓤} {K : Type 0} {Γ : List (Item 𝓤)} {G : Goal 𝓤 𝓛.H} {X : Type 0} where
  pub held : K → {F : X → Type 0} {i : X → Item 𝓤} → ((x : X) → F x → Seq K 𝓛 (i x ∷ Γ) G) → Seq K 𝓛 (Some 𝓤 F i ∷ Γ) G
  held t k = pick t (λ x. learn t (λ f. k x f))

  pub hold : K → (F : X → Type 0) (i : X → Item 𝓤) (x : X) → F x → Step K 𝓛 (Some 𝓤 F i ∷ Γ) G (i x ∷ Γ) G
  hold t F i x f = use1 𝓛 (Some 𝓤 F i) (via 𝓤 (guard 𝓤 (F x) (mean 𝓛 (i x))) (guard_i 𝓤 (F x) (mean 𝓛 (i x)) f) (ex_i 𝓤 (λ (z : X). guard 𝓤 (F z) (mean 𝓛 (i z))) x))

module _ {M : Type 1} {𝓤 : Ura M} (𝓛 : Logic 𝓤) where
  -- the entry at a number below t, before the context of the loop
  abbrev pub Smaller : List (Item 𝓤) → (ℕ → Item 𝓤) → ℕ → SProp 𝓤
  Smaller Γ I t = Below 𝓛 ◌<◌ (λ u. I u ∷ Γ) t

module _ {M : Type 1} {𝓤 : Ura M} {𝓛 : Logic 𝓤} {K : Type 0} {Γ : List (Item 𝓤)} where
  open 𝓛 use {H}

  pub turning : K → (𝓣 : Tables 𝓤 H) (I : ℕ → Item 𝓤) {E : Env 𝓤 H} {b : Body} {q : Post 𝓤 H}
      → ((t : ℕ) → Seq K 𝓛 (I t ∷ Γ) (runs 𝓣.C 𝓣.Λ E b (any_q (after_turn 𝓤 H (Smaller 𝓛 Γ I t) (post 𝓤 H q))))) → (t : ℕ) → Seq K 𝓛 (I t ∷ Γ) (runs 𝓣.C 𝓣.Λ E (loop b) q)
  turning t 𝓣 I turn n = loops t 𝓣 ◌<◌ lt-wf_rel.wf (λ u. I u ∷ Γ) turn n

  pub once_more : K → (I : ℕ → Item 𝓤) (t t' : ℕ) → t' < t → Seq K 𝓛 (I t' ∷ Γ) (prop (Smaller 𝓛 Γ I t))
  once_more k I t t' l = again k ◌<◌ (λ u. I u ∷ Γ) t t' l

  module _ {E : Env 𝓤 H} {C : Calls 𝓤 H} {Λ : Loops 𝓤 H} {q : Post 𝓤 H} where
    pub tests : K → {c : Operand} {n : ℕ} {b : Body} (y : Bool) → Opd K 𝓛 Γ E c (vbool y) → (y ≡ true → Seq K 𝓛 Γ (runs C Λ E b q)) → (y ≡ false → Seq K 𝓛 Γ (prop (post 𝓤 H q (exits n)))) → Seq K 𝓛 Γ (runs C Λ E (seq (cond c skip (exit n)) b) q)
    tests t true o goes ends = stays t o $ goes refl
    tests t false o goes ends = leaves_loop t o $ ends refl
