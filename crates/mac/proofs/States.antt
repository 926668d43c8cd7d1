-- The code state: in order, and what its calls answer, by cases. Assumes nothing.
use mathlib.Core.Path.{◌≡◌, sym, ap, ◌∙◌}
use mathlib.Core.Logic.{inl, inr}
use Prim.Native.Nat.{ℕ, ◌+◌, ◌≤◌, ◌<◌}
use native.Mathlib.Nat.{zero-add}
use native.Mathlib.Omega.{arith}
use mathlib.Core.Bool.{true, false, ◌&&◌}
use mathlib.Core.List.{List, []}
use lib.Dec.{leb, eqb}
use lib.ListN.{length, replicate}
use borrow.Author.Tests.{leb-true, le-leb, eqb-true, eq-eqb, lt-ltb, le-ltb}
use Rattle.truth.proofs.Tests.{first, second, both, below_or_not}
use Rattle.std.specs.Prelude.{Result, Ok, Err}
use Rattle.refusal.specs.Table.{accepted, state_not_in_order, too_long, number_by}
use Rattle.refusal.specs.declared.Refusal.{Refusal}
use Rattle.refusal.proofs.Telling.{not_accepted}
use Rattle.units.specs.Units.{longest}
use Rattle.hash.specs.State.{fresh, in_order as hash_in_order}
use Rattle.hash.specs.Update.{after_piece, update as hash_update}
use Rattle.hash.specs.Digests.{no_digest, finish as hash_finish}
use Rattle.hash.specs.Told.{told_digest}
use Rattle.hash.specs.declared.Hash.{Hash}
use Rattle.hash.specs.declared.Updated.{Updated}
use Rattle.hash.specs.declared.Digest.{Digest}
use Rattle.hash.proofs.State.{inOrder_fresh}
use Rattle.hash.proofs.Taking.{total_afterPiece, inOrder_afterPiece}
use Rattle.hash.proofs.Updating.{update_takes as hash_takes, update_passes as hash_passes}
use Rattle.hash.proofs.Refusing.{finish_refusals as finish_rows}
use Rattle.mac.specs.Hmac.{◌⊕◌, ipad, opad, key_block}
use Rattle.mac.specs.Codes.{block_of, started, start, in_order, update, finish}
use Rattle.mac.specs.Promises.{Ordered, after_block}
use Rattle.mac.specs.declared.Code.{Code}
use Rattle.mac.proofs.Blocks.{blocked, not_blocked, length_xored, length_block, fresh_takes, block_taken}

-- the four tests
pub parts_in_order : (c : Code) → in_order c ≡ true → Ordered c
unfolding in_order
parts_in_order c o =
    let i = hash_in_order c.inner in
    let u = hash_in_order c.outer in
    let f = leb 64 c.inner.total in
    let s = eqb c.outer.total 64 in (
      first i u (first (i && u) f (first (i && u && f) s o)),
      second i u (first (i && u) f (first (i && u && f) s o)),
      leb-true _ _ (second (i && u) f (first (i && u && f) s o)),
      eqb-true _ _ (second (i && u && f) s o),
    )

pub in_order_parts : (c : Code) → Ordered c → in_order c ≡ true
unfolding in_order
in_order_parts c p = both _ _ (both _ _ (both _ _ p.0 p.1) (le-leb _ _ p.2)) (eq-eqb _ _ p.3)

module _ (c : Code) where
  -- what update answers
  pub update_spoilt : (piece : List ℕ) → in_order c ≡ false → update c piece ≡ record { number = state_not_in_order; state = c }
  unfolding update
  update_spoilt piece o = rw o

  pub update_inner : (piece : List ℕ) → in_order c ≡ true
      → update c piece ≡ record { number = (hash_update c.inner piece).number; state = record { inner = (hash_update c.inner piece).state; outer = c.outer } }
  unfolding update
  update_inner piece o = rw o

  pub by_inner : (piece : List ℕ) → in_order c ≡ true → (u : Updated) → u ≡ hash_update c.inner piece
      → record { number = u.number; state = record { inner = u.state; outer = c.outer } } ≡ update c piece
  by_inner piece o u e = rw e (sym (update_inner piece o))

  pub update_takes : (piece : List ℕ) → in_order c ≡ true → c.inner.total + length piece ≤ longest
      → update c piece ≡ record { number = accepted; state = record { inner = after_piece c.inner piece; outer = c.outer } }
  update_takes piece o fits = update_inner piece o ∙ rw (hash_takes c.inner piece (parts_in_order c o).0 fits)

  pub update_accepts : (piece : List ℕ) → in_order c ≡ true → c.inner.total + length piece ≤ longest
      → update c piece ≡ record { number = accepted; state = record { inner = (hash_update c.inner piece).state; outer = c.outer } }
  update_accepts piece o fits = update_inner piece o ∙ rw (hash_takes c.inner piece (parts_in_order c o).0 fits)

  pub update_passes : (piece : List ℕ) → in_order c ≡ true → longest < c.inner.total + length piece
      → update c piece ≡ record { number = too_long; state = c }
  update_passes piece o past = update_inner piece o ∙ rw (hash_passes c.inner piece (parts_in_order c o).0 past)

  -- a piece that is taken leaves the state in order
  pub inOrder_taken : (piece : List ℕ) → in_order c ≡ true → c.inner.total + length piece ≤ longest
      → in_order (record { inner = after_piece c.inner piece; outer = c.outer }) ≡ true
  inOrder_taken piece o fits =
      let p = parts_in_order c o in
      in_order_parts (record { inner = after_piece c.inner piece; outer = c.outer })
      (inOrder_afterPiece c.inner p.0 piece fits, p.1, rw (total_afterPiece c.inner piece) (omega arith), p.3)

  -- what finish answers
  pub finish_spoilt : in_order c ≡ false → finish c ≡ no_digest state_not_in_order
  unfolding finish
  finish_spoilt o = rw o

  pub finish_outer : in_order c ≡ true → finish c ≡ hash_finish (hash_update c.outer (hash_finish c.inner).bytes).state
  unfolding finish
  finish_outer o = rw o

  -- a code of 32 bytes, from any state in order
  pub finish_folds : in_order c ≡ true
      → (finish c ≡ record { number = accepted; bytes = (hash_finish (hash_update c.outer (hash_finish c.inner).bytes).state).bytes })
      × (length (hash_finish (hash_update c.outer (hash_finish c.inner).bytes).state).bytes ≡ 32)
  finish_folds o =
      let p = parts_in_order c o in
      let d = (hash_finish c.inner).bytes in
      let size : length d ≡ 32 = (finish_rows c.inner).3 in
      let taken = hash_takes c.outer d p.1 (omega arith) in
      let after = inOrder_afterPiece c.outer p.1 d (omega arith) in
      let rows = finish_rows (after_piece c.outer d) in
      rw taken (
        finish_outer o
            ∙ rw taken (ap (λ (n : ℕ). record { number = n; bytes = (hash_finish (after_piece c.outer d)).bytes }) (rows.1.1 after)),
        rows.3,
      )

  -- the inner is finished and the outer takes its digest: neither can refuse
  module _ (o : in_order c ≡ true) (d : Result (List ℕ) Refusal) (inner : told_digest d ≡ hash_finish c.inner) where
    pub inner_finishes : (r : Refusal) → d ≡ Err r → ⊥
    unfolding no_digest
    inner_finishes r e =
        let p = parts_in_order c o in
        let told : told_digest (Err r) ≡ hash_finish c.inner = rw e at inner in
        not_accepted r (ap (λ (x : Digest). x.number) told ∙ (finish_rows c.inner).1.1 p.0)

    module _ (inside : List ℕ) (e : d ≡ Ok inside) where
      told : record { number = accepted; bytes = inside } ≡ hash_finish c.inner
      told = let t : told_digest (Ok inside) ≡ hash_finish c.inner = rw e at inner in t

      size : length inside ≡ 32
      size = ap (λ (x : Digest). length x.bytes) told ∙ (finish_rows c.inner).3

      takes : hash_update c.outer inside ≡ record { number = accepted; state = after_piece c.outer inside }
      takes = let p = parts_in_order c o in let s = size in hash_takes c.outer inside p.1 (omega arith)

      pub outer_takes : (r : Refusal) → record { number = number_by r; state = c.outer } ≡ hash_update c.outer inside → ⊥
      outer_takes r f = not_accepted r (ap (λ (u : Updated). u.number) (f ∙ takes))

      pub outer_finishes : (after : Hash) → record { number = accepted; state = after } ≡ hash_update c.outer inside → hash_finish after ≡ finish c
      outer_finishes after f =
          ap (λ (u : Updated). hash_finish u.state) f
          ∙ ap (λ (x : Digest). hash_finish (hash_update c.outer x.bytes).state) told
          ∙ sym (finish_outer o)

-- a fresh state that has taken a block
pub taken_in_order : (block : List ℕ) → length block ≡ 64 → hash_in_order (after_piece fresh block) ≡ true
unfolding fresh
taken_in_order block l = inOrder_afterPiece fresh inOrder_fresh block (omega arith)

pub taken_total : (block : List ℕ) → length block ≡ 64 → (after_piece fresh block).total ≡ 64
unfolding fresh
taken_total block l = total_afterPiece fresh block ∙ zero-add (length block) ∙ l

-- what start answers
module _ (key : List ℕ) where
  abbrev pub inside : List ℕ
  inside = key_block key ⊕ ipad

  abbrev pub outside : List ℕ
  outside = key_block key ⊕ opad

  pub length_inside : length inside ≡ 64
  unfolding ipad
  length_inside = length_xored (key_block key) 64 0x36 (length_block key)

  pub length_outside : length outside ≡ 64
  unfolding opad
  length_outside = length_xored (key_block key) 64 0x5c (length_block key)

  pub started_taken : started key ≡ record { inner = after_piece fresh inside; outer = after_piece fresh outside }
  unfolding started
  started_taken = rw (fresh_takes inside (omega (arith, length_inside)), fresh_takes outside (omega (arith, length_outside)))

  pub started_blocks : started key ≡ record { inner = after_block inside; outer = after_block outside }
  unfolding started
  started_blocks = rw (block_taken inside length_inside, block_taken outside length_outside)

  pub total_started : (started key).inner.total ≡ 64
  total_started = rw started_taken (taken_total inside length_inside)

  pub inOrder_started : in_order (started key) ≡ true
  inOrder_started =
      rw started_taken
      (in_order_parts (record { inner = after_piece fresh inside; outer = after_piece fresh outside }) (
        taken_in_order inside length_inside,
        taken_in_order outside length_outside,
        omega (arith, taken_total inside length_inside),
        taken_total outside length_outside,
      ))

  pub start_takes : length key ≤ longest → start key ≡ record { number = accepted; state = started key }
  unfolding start
  start_takes fits = rw (le-ltb longest (length key) fits)

  pub start_passes : longest < length key → start key ≡ record { number = too_long; state = started [] }
  unfolding start
  start_passes past = rw (lt-ltb longest (length key) past)

  -- by its block
  pub start_from : (block : List ℕ) → Ok block ≡ block_of key
      → record {
        number = accepted;
        state = record { inner = (hash_update fresh (block ⊕ replicate 64 0x36)).state; outer = (hash_update fresh (block ⊕ replicate 64 0x5c)).state };
      }
      ≡ start key
  unfolding started ipad opad
  start_from block e = let b = blocked key block e in rw b.is (sym (start_takes b.fits))

  pub start_refused : (r : Refusal) → Err r ≡ block_of key → record { number = number_by r; state = started [] } ≡ start key
  start_refused r e = let b = not_blocked key r e in rw b.1 (sym (start_passes b.0))

-- what is started is in order
pub starts_in_order : (key : List ℕ) → in_order (start key).state ≡ true
starts_in_order key =
    elim (below_or_not longest (length key)) [
      | inl past ↦ rw (start_passes key past) (inOrder_started [])
      | inr fits ↦ rw (start_takes key fits) (inOrder_started key)
    ]
