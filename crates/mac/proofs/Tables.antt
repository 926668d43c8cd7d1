-- The tables: each row's answer is the call's, and the call's answer is a row. Assumes nothing.
use mathlib.Core.Path.{◌≡◌, refl, sym, ap, ◌∙◌, subst}
use mathlib.Core.Logic.{◌↔◌, inl, inr}
use Prim.Native.Nat.{ℕ, ◌+◌, ◌≤◌, ◌<◌}
use native.Mathlib.Omega.{arith}
use mathlib.Core.Bool.{true, false, true≢false}
use mathlib.Core.List.{List, []}
use lib.Dec.{eqb}
use lib.ListN.{length}
use borrow.Author.Tests.{eqb-true, eqb-false}
use Rattle.truth.proofs.Tests.{either, below_or_not, never, not_both}
use Rattle.buffers.specs.Same.{same}
use Rattle.buffers.proofs.Comparing.{same_equal, equal_same}
use Rattle.units.specs.Units.{longest}
use Rattle.hash.specs.Digests.{no_digest, compared}
use Rattle.hash.specs.declared.Digest.{Digest}
use Rattle.hash.specs.declared.Compared.{Compared}
use Rattle.hash.proofs.Comparing.{compared_refused, compared_size, compared_same}
use Rattle.hash.proofs.Refusing.{length_sm3}
use Rattle.mac.specs.Hmac.{ipad, opad, hmac}
use Rattle.mac.specs.Codes.{start, in_order, update, finish, code_of, compare_state, compare_message}
use Rattle.mac.specs.Promises.{key_state, StartRow, Ordered, UpdateRow, FinishRow, CodeRow, HeldRow, long_key, started, not_in_order, too_long_row, taken, finished, long_message, coded, refused, wrong_size, differs, equals, Tables, StateCompared, MessageCompared}
use Rattle.mac.specs.declared.Code.{Code}
use Rattle.mac.specs.declared.CodeUpdated.{CodeUpdated}
use Rattle.mac.proofs.States.{parts_in_order, in_order_parts, started_blocks, start_takes, start_passes, update_spoilt, update_passes, update_accepts, finish_spoilt, finish_folds}
use Rattle.mac.proofs.Calls.{code_is, key_passes, message_passes}

-- a table, from the call's own row and from what each row's answer is
table : {A : Type 0} (Row : A → Type 0) {x : A} → Row x → ((y : A) → Row y → y ≡ x) → (y : A) → (y ≡ x) ↔ Row y
table Row own holds y = (λ e. subst Row (sym e) own, holds y)

-- start
starts_long : (key : List ℕ) → longest < length key → start key ≡ record { number = 10; state = key_state [] }
unfolding ipad opad
starts_long key past = start_passes key past ∙ rw (started_blocks [])

starts_key : (key : List ℕ) → length key ≤ longest → start key ≡ record { number = 0; state = key_state key }
unfolding ipad opad
starts_key key fits = start_takes key fits ∙ rw (started_blocks key)

start_row : (key : List ℕ) → StartRow key (start key)
start_row key =
    elim (below_or_not longest (length key)) [
      | inl past ↦ subst (StartRow key) (sym (starts_long key past)) (long_key past)
      | inr fits ↦ subst (StartRow key) (sym (starts_key key fits)) (started fits)
    ]

starts : (key : List ℕ) (answer : CodeUpdated) → StartRow key answer → answer ≡ start key
starts key answer (long_key past) = sym (starts_long key past)
starts key answer (started fits) = sym (starts_key key fits)

-- update and finish
module _ (c : Code) where
  spoilt : (Ordered c → ⊥) → in_order c ≡ false
  spoilt f = never _ (λ o. f (parts_in_order c o))

  module _ (piece : List ℕ) where
    update_row : UpdateRow c piece (update c piece)
    update_row =
        elim (either (in_order c)) [
          | inr f ↦ subst (UpdateRow c piece) (sym (update_spoilt c piece f)) (not_in_order (λ o. not_both _ f (in_order_parts c o)))
          | inl o ↦
              elim (below_or_not longest (c.inner.total + length piece)) [
                | inl past ↦ subst (UpdateRow c piece) (sym (update_passes c piece o past)) (too_long_row (parts_in_order c o) past)
                | inr fits ↦ subst (UpdateRow c piece) (sym (update_accepts c piece o fits)) (taken (parts_in_order c o) fits)
              ]
        ]

    updates : (answer : CodeUpdated) → UpdateRow c piece answer → answer ≡ update c piece
    updates answer (not_in_order f) = sym (update_spoilt c piece (spoilt f))
    updates answer (too_long_row o past) = sym (update_passes c piece (in_order_parts c o) past)
    updates answer (taken o fits) = sym (update_accepts c piece (in_order_parts c o) fits)

  finish_row : FinishRow c (finish c)
  unfolding no_digest
  finish_row =
      elim (either (in_order c)) [
        | inr f ↦ subst (FinishRow c) (sym (finish_spoilt c f)) (not_in_order (λ o. not_both _ f (in_order_parts c o)))
        | inl o ↦ subst (FinishRow c) (sym (finish_folds c o).0) (finished (parts_in_order c o))
      ]

  finishes : (answer : Digest) → FinishRow c answer → answer ≡ finish c
  unfolding no_digest
  finishes answer (not_in_order f) = sym (finish_spoilt c (spoilt f))
  finishes answer (finished o) = sym (finish_folds c (in_order_parts c o)).0

-- the one call
code_row : (key m : List ℕ) → CodeRow key m (code_of key m)
unfolding no_digest
code_row key m =
    elim (below_or_not longest (length key)) [
      | inl past ↦ subst (CodeRow key m) (sym (key_passes key m past)) (long_key past)
      | inr fits ↦
          elim (below_or_not longest (64 + length m)) [
            | inl past ↦ subst (CodeRow key m) (sym (message_passes key m fits past)) (long_message fits past)
            | inr short ↦ subst (CodeRow key m) (sym (code_is key m fits short)) (coded fits short)
          ]
    ]

codes : (key m : List ℕ) (answer : Digest) → CodeRow key m answer → answer ≡ code_of key m
unfolding no_digest
codes key m answer (long_key past) = sym (key_passes key m past)
codes key m answer (long_message fits past) = sym (message_passes key m fits past)
codes key m answer (coded fits short) = sym (code_is key m fits short)

-- comparison
module _ (d : Digest) (x : List ℕ) where
  answers_no : d.number ≡ 0 → length x ≡ 32 → (x ≡ d.bytes → ⊥) → compared d x ≡ record { number = 0; same = false }
  answers_no e l f = compared_same d x e l ∙ rw (never (same d.bytes x) (λ s. f (sym (same_equal d.bytes x s))))

  answers_yes : d.number ≡ 0 → length x ≡ 32 → x ≡ d.bytes → compared d x ≡ record { number = 0; same = true }
  answers_yes e l g = compared_same d x e l ∙ rw (equal_same d.bytes x (sym g))

  held_row : HeldRow d x (compared d x)
  held_row =
      elim (either (eqb d.number 0)) [
        | inr f ↦ let n = eqb-false _ _ f in subst (HeldRow d x) (sym (compared_refused d x n)) (refused n)
        | inl e ↦
            let n = eqb-true _ _ e in
            elim (either (eqb (length x) 32)) [
              | inr f ↦ let l = eqb-false _ _ f in subst (HeldRow d x) (sym (compared_size d x n l)) (wrong_size n l)
              | inl k ↦
                  let l = eqb-true _ _ k in
                  elim (either (same d.bytes x)) [
                    | inl s ↦ let g = sym (same_equal d.bytes x s) in subst (HeldRow d x) (sym (answers_yes n l g)) (equals n l g)
                    | inr s ↦
                        let g : x ≡ d.bytes → ⊥ = λ g. not_both _ s (equal_same d.bytes x (sym g)) in
                        subst (HeldRow d x) (sym (answers_no n l g)) (differs n l g)
                  ]
            ]
      ]

  held : (answer : Compared) → HeldRow d x answer → answer ≡ compared d x
  held answer (refused f) = sym (compared_refused d x f)
  held answer (wrong_size n f) = sym (compared_size d x n f)
  held answer (differs n l f) = sym (answers_no n l f)
  held answer (equals n l g) = sym (answers_yes n l g)

  -- a yes
  yes_row : {answer : Compared} → HeldRow d x answer → answer.same ≡ true → (d.number ≡ 0) × (x ≡ d.bytes)
  yes_row (refused f) y = absurd (true≢false (sym y))
  yes_row (wrong_size n f) y = absurd (true≢false (sym y))
  yes_row (differs n l f) y = absurd (true≢false (sym y))
  yes_row (equals n l g) y = (n, g)

  says_yes : length d.bytes ≡ 32 → ((compared d x).same ≡ true) ↔ ((d.number ≡ 0) × (x ≡ d.bytes))
  says_yes l = (yes_row held_row, λ (n, g). rw (answers_yes n (ap length g ∙ l) g))

-- with an answer between
through : (Row : Digest → Type 0) {d : Digest} (x : List ℕ) → Row d → ((y : Digest) → Row y → y ≡ d) → (answer : Compared)
    → (answer ≡ compared d x) ↔ ((y : Digest) × Row y × HeldRow y x answer)
through Row {d} x own holds answer = (
  λ e. (d, own, subst (HeldRow d x) (sym e) (held_row d x)),
  λ (y, row, h). held y x answer h ∙ ap (λ (z : Digest). compared z x) (holds y row),
)

pub tables : Tables
unfolding compare_state compare_message
tables =
    record {
      starts = λ key. table (StartRow key) (start_row key) (starts key);
      updates = λ c piece. table (UpdateRow c piece) (update_row c piece) (updates c piece);
      finishes = λ c. table (FinishRow c) (finish_row c) (finishes c);
      codes = λ key m. table (CodeRow key m) (code_row key m) (codes key m);
      compares_state = λ c x. through (FinishRow c) x (finish_row c) (finishes c);
      compares_message = λ key m x. through (CodeRow key m) x (code_row key m) (codes key m);
    }

pub length_hmac : (key m : List ℕ) → length (hmac key m) ≡ 32
unfolding hmac
length_hmac key m = length_sm3 _

-- a yes, of a state
good_finish : (c : Code) {d : Digest} → FinishRow c d → (d.number ≡ 0 → Ordered c) × (length d.bytes ≡ 32)
good_finish c (not_in_order f) = (λ n. absurd (omega arith), refl)
good_finish c (finished o) = (λ n. o, (finish_folds c (in_order_parts c o)).1)

pub state_compared : StateCompared
unfolding compare_state
state_compared c x =
    let good = good_finish c (finish_row c) in
    let says = says_yes (finish c) x good.1 in (
      λ y. (good.0 (says.0 y).0, (says.0 y).1),
      λ (o, e). says.1 (rw (finish_folds c (in_order_parts c o)).0, e),
    )

-- and of a key and a message
good_code : (key m : List ℕ) {d : Digest} → CodeRow key m d
    → (d.number ≡ 0 → (length key ≤ longest) × (64 + length m ≤ longest) × (d.bytes ≡ hmac key m)) × (length d.bytes ≡ 32)
good_code key m (long_key past) = (λ n. absurd (omega arith), refl)
good_code key m (long_message fits past) = (λ n. absurd (omega arith), refl)
good_code key m (coded fits short) = (λ n. (fits, short, refl), length_hmac key m)

pub message_compared : MessageCompared
unfolding compare_message
message_compared key m x =
    let good = good_code key m (code_row key m) in
    let says = says_yes (code_of key m) x good.1 in (
      λ y. let (n, e) = says.0 y in let (fits, short, is) = good.0 n in (fits, short, e ∙ is),
      λ (fits, short, e). let is = code_is key m fits short in says.1 (rw is, rw is e),
    )
