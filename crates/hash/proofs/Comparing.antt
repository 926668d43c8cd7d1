-- A digest held against an expected one, by cases. Assumes nothing.
use mathlib.Core.Path.{◌≡◌, refl, ap}
use Prim.Native.Nat.{ℕ}
use mathlib.Core.Bool.{false}
use mathlib.Core.List.{List}
use lib.ListN.{length}
use borrow.Author.Tests.{eq-eqb, ne_eqb}
use Rattle.std.specs.Prelude.{Ok, Err}
use Rattle.refusal.specs.Table.{accepted, wrong_size, number_by}
use Rattle.refusal.specs.declared.Refusal.{Refusal}
use Rattle.refusal.specs.declared.Refusal.TheVariants
use Rattle.refusal.proofs.Telling.{not_accepted}
use Rattle.buffers.specs.Same.{same}
use Rattle.buffers.proofs.Comparing.{same_equal, equal_same}
use Rattle.hash.specs.Digests.{no_digest, compared}
use Rattle.hash.specs.Told.{told_digest, compared_of}
use Rattle.hash.specs.Promises.{Held}
use Rattle.hash.specs.declared.Digest.{Digest}

module _ (d : Digest) (x : List ℕ) where
  pub compared_refused : (d.number ≡ accepted → ⊥) → compared d x ≡ record { number = d.number; same = false }
  unfolding compared
  compared_refused f = rw (ne_eqb d.number accepted f)

  pub compared_size : d.number ≡ accepted → (length x ≡ 32 → ⊥) → compared d x ≡ record { number = wrong_size; same = false }
  unfolding compared
  compared_size e f = rw (eq-eqb d.number accepted e, ne_eqb (length x) 32 f)

  pub compared_same : d.number ≡ accepted → length x ≡ 32 → compared d x ≡ record { number = accepted; same = same d.bytes x }
  unfolding compared
  compared_same e l = rw (eq-eqb d.number accepted e, eq-eqb (length x) 32 l)

  -- as it is promised
  pub held : Held d x (compared d x)
  held =
      record {
        refused = compared_refused;
        wrong_size_lem = compared_size;
        number = λ e l. ap (λ c. c.number) (compared_same e l);
        same_bytes = λ e l. rw (compared_same e l) (same_equal d.bytes x, equal_same d.bytes x);
      }

-- of what a digest's call answered
module _ (x : List ℕ) where
  pub refused_first : (r : Refusal) → compared_of (Err r) ≡ compared (told_digest (Err r)) x
  unfolding no_digest
  refused_first r = rw (compared_refused (no_digest (number_by r)) x (not_accepted r))

  pub refused_size : (b : List ℕ) → (length x ≡ 32 → ⊥) → compared_of (Err TheVariants.WrongSize) ≡ compared (told_digest (Ok b)) x
  refused_size b f = rw (compared_size (told_digest (Ok b)) x refl f)

  pub compared_bytes : (b : List ℕ) → length x ≡ 32 → compared_of (Ok (same b x)) ≡ compared (told_digest (Ok b)) x
  compared_bytes b l = rw (compared_same (told_digest (Ok b)) x refl l)

pub ruleset comparisons = (refused_first, refused_size, compared_bytes)
