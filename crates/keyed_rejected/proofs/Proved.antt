-- The crate's promises, proved. Assumes nothing.
use Prim.Native.Nat.{ℕ, ◌≤◌}
use mathlib.Core.Path.{◌≡◌, refl, sym, ap, ◌∙◌}
use mathlib.Core.List.{List, [], ◌∷◌, append-nil}
use native.Mathlib.Omega.{arith}
use lib.ListN.{length}
use Rattle.refusal.specs.Table.{accepted}
use Rattle.units.specs.Units.{longest}
use Rattle.hash.specs.Cutting.{joined}
use Rattle.hash.specs.declared.Digest.{Digest}
use Rattle.mac.specs.Hmac.{hmac}
use Rattle.mac.specs.Cutting.{after_all_of}
use Rattle.mac.specs.Promises.{AnyCuttingOf, CodesOf}
use Rattle.mac.specs.declared.Code.{Code}
use Rattle.mac.specs.declared.CodeUpdated.{CodeUpdated}
use Rattle.sheet.specs.Judging.{sheet_of}
use Rattle.sheet.specs.declared.Sheet.{Sheet}
use Rattle.sheet.specs.declared.Verdict.{Verdict}
use Rattle.session.specs.Sessions.{empty_session}
use Rattle.sheet_promises.proofs.Listing.{lists_none}
use Rattle.sheet_promises.proofs.Proved.{proved as sheets}
use Rattle.rejected.specs.Example.{text, notes}
use Rattle.rejected.proofs.Proved.{proved as rejected}
use Rattle.keyed.specs.Keyed.{keyed_of}
use Rattle.keyed.proofs.Judging.{not_begun_lem, keyed_refused}
use Rattle.keyed_promises.proofs.Rows.{sheet_read}
use Rattle.keyed_promises.specs.Answers.{is_read, mac_refused, other_code_row as code_is_other}
use Rattle.keyed_promises.specs.Promises.{AcceptsOf}
use Rattle.keyed_promises.proofs.Proved.{proved as keyed}
use Rattle.keyed_rejected.specs.Example.{key, other_key, code, keyed_text, line_alone, not_begun}
use Rattle.keyed_rejected.specs.Promises.{Promises}
use Rattle.keyed_rejected.proofs.Computed.{computed}
use Rattle.keyed_rejected.proofs.Example.{is_keyed_sheet, keys_differ, messages_differ, key_fits, other_fits, text_fits, ends, ends_alone, begins_not, nothing_read, other_code_row}

-- the text in one piece
one : joined (text ∷ []) ≡ text
unfolding joined
one = append-nil text

abbrev answer : List ℕ → Digest
answer bytes = record { number = accepted; bytes = bytes }

-- two codes that are answered alike
alike : {a b : List ℕ} {d : Digest} → d ≡ answer a → d ≡ answer b → a ≡ b
alike e f = ap (λ (d : Digest). d.bytes) (sym e ∙ f)

-- what any start, update and finish answer for the text, and for no piece
module _ (starting : List ℕ → CodeUpdated) (updating : Code → List ℕ → CodeUpdated) (finishing : Code → Digest) (cuts : AnyCuttingOf starting updating finishing) where
  of_text : (k : List ℕ) → length k ≤ longest → finishing (after_all_of updating (starting k).state (text ∷ [])) ≡ answer (hmac k text)
  of_text k fits = rw one at (cuts k (text ∷ []) fits (rw one text_fits)).1

  of_nothing : finishing (starting key).state ≡ answer (hmac key [])
  unfolding after_all_of joined
  of_nothing = (cuts key [] key_fits (omega arith)).1

no_constant : (starting : List ℕ → CodeUpdated) (updating : Code → List ℕ → CodeUpdated) (d : Digest) → AnyCuttingOf starting updating (λ c. d) → ⊥
no_constant starting updating d cuts =
    messages_differ (alike (of_text starting updating (λ c. d) cuts key key_fits) (of_nothing starting updating (λ c. d) cuts))

module _ (starting : List ℕ → CodeUpdated) (updating : Code → List ℕ → CodeUpdated) (finishing : Code → Digest) where
  no_key : ((k other : List ℕ) → (starting k).state ≡ (starting other).state) → AnyCuttingOf starting updating finishing → ⊥
  no_key same cuts =
      keys_differ
      (alike
      (of_text starting updating finishing cuts key key_fits)
      (ap (λ (c : Code). finishing (after_all_of updating c (text ∷ []))) (same key other_key) ∙ of_text starting updating finishing cuts other_key other_fits))

  no_message : ((c : Code) (piece : List ℕ) → (updating c piece).state ≡ c) → AnyCuttingOf starting updating finishing → ⊥
  unfolding after_all_of
  no_message idle cuts =
      messages_differ
      (alike
      (of_text starting updating finishing cuts key key_fits)
      (ap finishing (idle (starting key).state text) ∙ of_nothing starting updating finishing cuts))

-- the same of one call
module _ (coding : (k message : List ℕ) → Digest) (are : CodesOf coding) where
  call_key : ((k other message : List ℕ) → coding k message ≡ coding other message) → ⊥
  call_key same = keys_differ (alike (are key text key_fits text_fits) (same key other_key text ∙ are other_key text other_fits text_fits))

  call_message : ((k message other : List ℕ) → coding k message ≡ coding k other) → ⊥
  call_message same = messages_differ (alike (are key text key_fits text_fits) (same key text [] ∙ are key [] key_fits (omega arith)))

-- the example, read with its key and with the other
read : (record { number = 0; line = 0 } ≡ (keyed_of key keyed_text).verdict) × ((sheet_of text).session ≡ (keyed_of key keyed_text).session)
read =
    (keyed.answers key keyed_text _ (sheet_of text).session).1
    (is_read notes key_fits is_keyed_sheet (sheets.lists text notes rejected.is_sheet))

refused : (record { number = 18; line = 0 } ≡ (keyed_of other_key keyed_text).verdict) × (empty_session ≡ (keyed_of other_key keyed_text).session)
refused = (keyed.answers other_key keyed_text _ empty_session).1 (mac_refused (code_is_other text code other_fits ends text_fits other_code_row) (λ a. omega arith) lists_none)

-- a MAC line alone, and one that does not begin a line
alone : (keyed_of key line_alone).verdict ≡ record { number = 1; line = 1 }
alone = ap (λ (r : Sheet). r.verdict) (sheet_read key line_alone [] key_fits ends_alone (omega arith)) ∙ nothing_read

begun_not : (keyed_of key not_begun).verdict ≡ record { number = 17; line = 0 }
begun_not =
    let n = not_begun_lem key not_begun key_fits begins_not.0 begins_not.1 in
    rw (keyed_refused key not_begun (λ a. omega arith), n)

-- readers
module _ (reading : (k t : List ℕ) → Sheet) (accepts : AcceptsOf reading) where
  refuses_all : ((k t : List ℕ) → (reading k t).verdict.number ≡ accepted → ⊥) → ⊥
  refuses_all never = never key keyed_text ((accepts key keyed_text).1 (key_fits, (notes, is_keyed_sheet)))

  not_by_other : (reading other_key keyed_text).verdict.number ≡ accepted → ⊥
  not_by_other a =
      let n : (keyed_of other_key keyed_text).verdict.number ≡ accepted = (keyed.accepts other_key keyed_text).1 ((accepts other_key keyed_text).0 a) in
      let bad : 18 ≡ (keyed_of other_key keyed_text).verdict.number = ap (λ (v : Verdict). v.number) refused.0 in
      omega arith

  accepts_all : ((k t : List ℕ) → (reading k t).verdict.number ≡ accepted) → ⊥
  accepts_all always = not_by_other (always other_key keyed_text)

  reads_no_key : ((k other t : List ℕ) → reading k t ≡ reading other t) → ⊥
  reads_no_key same =
      not_by_other (rw (same other_key key keyed_text) ((accepts key keyed_text).1 (key_fits, (notes, is_keyed_sheet))))

pub proved : Promises
proved =
    record {
      run = computed;
      is_keyed_sheet = is_keyed_sheet;
      is_accepted = sym read.0;
      lists = rw (← read.1) (sheets.lists text notes rejected.is_sheet);
      other_refused = sym refused.0;
      other_lists = rw (← refused.1) lists_none;
      line_alone_lem = alone;
      not_begun_lem = begun_not;
      constant = no_constant;
      constant_call = λ d are. call_key (λ k m. d) are (λ k other m. refl);
      no_key = no_key;
      no_key_call = λ coding same are. call_key coding are same;
      no_message = no_message;
      no_message_call = λ coding same are. call_message coding are same;
      refuses_all = λ reading never accepts. refuses_all reading accepts never;
      accepts_all = λ reading always accepts. accepts_all reading accepts always;
      reads_no_key = λ reading same accepts. reads_no_key reading accepts same;
    }
