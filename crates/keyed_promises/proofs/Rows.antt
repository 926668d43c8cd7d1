-- Each row's answer is the reader's, and every key and text have a row. Assumes nothing.
use Rattle.lines.specs.Fields.{DigestField}
use Prim.Native.Nat.{ℕ, ◌+◌, ◌-◌, ◌≤◌, ◌<◌}
use mathlib.Core.Path.{◌≡◌, refl, sym, ap, ap₂, ◌∙◌, subst}
use mathlib.Core.Logic.{◌↔◌, ◌⊎◌, inl, inr}
use mathlib.Core.List.{List, []}
use native.Mathlib.Omega.{arith}
use borrow.Author.Tests.{eqb-true, eqb-false}
use lib.Dec.{eqb}
use lib.ListN.{length}
use Rattle.truth.proofs.Tests.{either, below_or_not, not_both}
use Rattle.buffers.specs.Same.{same}
use Rattle.buffers.proofs.Comparing.{same_equal, equal_same}
use Rattle.refusal.specs.Table.{accepted, too_long, no_mac_line, other_code}
use Rattle.units.specs.Units.{longest}
use Rattle.hash.specs.declared.Digest.{Digest}
use Rattle.hash.specs.declared.Compared.{Compared}
use Rattle.lines.specs.Reading.{is_good}
use Rattle.lines.specs.declared.Entry.{Entry}
use Rattle.mac.specs.Hmac.{hmac}
use Rattle.mac.specs.Codes.{compare_message}
use Rattle.mac.specs.Promises.{CodeRow, HeldRow, long_message, coded, refused, differs, equals}
use Rattle.mac.proofs.Proved.{proved as codes}
use Rattle.session.specs.Sessions.{empty_session}
use Rattle.session.specs.declared.Session.{Session}
use Rattle.sheet.specs.Judging.{sheet_of}
use Rattle.sheet.specs.declared.Verdict.{Verdict}
use Rattle.sheet_promises.specs.Promises.{Lists}
use Rattle.sheet_promises.proofs.Listing.{lists_none}
use Rattle.sheet_promises.proofs.Proved.{proved as sheets}
use Rattle.keyed.specs.Keyed.{begins_line, mac_line_at, code_number, mac_number, covered, keyed_of}
use Rattle.keyed.proofs.Judging.{code_refused, code_fits as fits_code, code_other, key_past, too_short, not_begun_lem, ill_formed, well_formed, covered_all, keyed_refused, keyed_read}
use Rattle.keyed_promises.specs.Grammar.{EndsInMac, IsKeyedSheet}
use Rattle.keyed_promises.specs.Answers.{MacRow, Answered, long_key, no_mac_line_row, long_text, other_code_row, code_fits, mac_refused, bad_sheet, is_read}
use Rattle.keyed_promises.proofs.MacLines.{code_length}
use Rattle.keyed_promises.proofs.Endings.{ends_judged, judged_ends, sheet_begins}

-- the code of bytes, by their size and by what it should be: the comparison's row
module _ (key bytes code : List ℕ) (fits : length key ≤ longest) where
  compared_so : {c : Compared} → ((d : Digest) × CodeRow key bytes d × HeldRow d code c) → compare_message key bytes code ≡ c
  compared_so row = sym ((codes.tables.compares_message key bytes code _).1 row)

  long_bytes : longest < 64 + length bytes → code_number key bytes code ≡ too_long
  long_bytes past =
      let c = compared_so (_, long_message fits past, refused (λ a. omega arith)) in
      sym (code_refused key bytes code _ (sym c) (λ a. omega arith))

  module _ (short : 64 + length bytes ≤ longest) (size : length code ≡ 32) where
    wrong_code : (code ≡ hmac key bytes → ⊥) → code_number key bytes code ≡ other_code
    wrong_code f = sym (code_other key bytes code _ (sym (compared_so (_, coded fits short, differs refl size f))) refl refl)

    right_code : code ≡ hmac key bytes → code_number key bytes code ≡ accepted
    right_code e = sym (fits_code key bytes code _ (sym (compared_so (_, coded fits short, equals refl size e))) refl refl)

-- a text that ends in a MAC line
module _ (key text bytes code : List ℕ) (fits : length key ≤ longest) (m : EndsInMac text bytes code) where
  by_code : mac_number key text ≡ code_number key bytes code
  by_code =
      let j = ends_judged text bytes code m in
      well_formed key text fits j.enough j.begins (ap (λ (d : DigestField). is_good d.stop) j.line)
      ∙ ap₂ (code_number key) j.before (ap (λ (d : DigestField). d.digest) j.line)

  pub is_covered : covered text accepted ≡ bytes
  is_covered = covered_all text accepted refl ∙ (ends_judged text bytes code m).before

  size : length code ≡ 32
  size = code_length m.line code m.is_mac_line

-- of a text that ends in a MAC line of its code, the sheet is read
pub sheet_read : (key text bytes : List ℕ) → length key ≤ longest → EndsInMac text bytes (hmac key bytes) → 64 + length bytes ≤ longest
    → keyed_of key text ≡ sheet_of bytes
sheet_read key text bytes fits m short =
    keyed_read key text
    (by_code key text bytes _ fits m ∙ right_code key bytes _ fits short (size key text bytes _ fits m) refl)
    ∙ ap sheet_of (is_covered key text bytes _ fits m)

-- a keyed sheet is such a text
module _ (key text : List ℕ) (es : List Entry) (k : IsKeyedSheet key text es) where
  pub keyed_ends : EndsInMac text k.bytes (hmac key k.bytes)
  keyed_ends =
      record {
        line = k.line;
        is_mac_line = k.is_mac_line;
        line_begins = sheet_begins k.bytes es k.is_sheet;
        whole = k.whole;
      }

  keyed_short : 64 + length k.bytes ≤ longest
  keyed_short = omega (arith, sheets.size k.bytes es k.is_sheet)

  pub keyed_sheet : length key ≤ longest → keyed_of key text ≡ sheet_of k.bytes
  keyed_sheet fits = sheet_read key text k.bytes fits keyed_ends keyed_short

-- what the reader answers and leaves
abbrev pub Answers : (key text : List ℕ) → Verdict → Session → Type 0
Answers key text v s = (v ≡ (keyed_of key text).verdict) × (s ≡ (keyed_of key text).session)

-- refused before the sheet is read
refused_by_lem : (key text : List ℕ) (number : ℕ) (s : Session) → mac_number key text ≡ number → (number ≡ accepted → ⊥) → Lists s []
    → Answers key text (record { number = number; line = 0 }) s
refused_by_lem key text number s e f l =
    rw (keyed_refused key text (λ a. f (sym e ∙ a)), e) (refl, sheets.one_session s empty_session [] l lists_none)

-- a text that ends in no MAC line
no_mac : (key text : List ℕ) → length key ≤ longest → ((bytes code : List ℕ) → EndsInMac text bytes code → ⊥) → mac_number key text ≡ no_mac_line
no_mac key text fits none =
    elim (below_or_not (length text) 69) [
      | inl few ↦ too_short key text fits few
      | inr enough ↦
          elim (either (begins_line text (length text - 69))) [
            | inr f ↦ not_begun_lem key text fits enough f
            | inl begins ↦
                elim (either (is_good (mac_line_at text (length text - 69)).stop)) [
                  | inr f ↦ ill_formed key text fits enough begins f
                  | inl good ↦ absurd (none _ _ (judged_ends text enough begins good))
                ]
          ]
    ]

pub mac_row_holds : (key text : List ℕ) {number : ℕ} → MacRow key text number → number ≡ mac_number key text
mac_row_holds key text (long_key past) = sym (key_past key text past)
mac_row_holds key text (no_mac_line_row fits none) = sym (no_mac key text fits none)
mac_row_holds key text (long_text bytes code fits m past) = sym (by_code key text bytes code fits m ∙ long_bytes key bytes code fits past)
mac_row_holds key text (other_code_row bytes code fits m short f) =
    sym (by_code key text bytes code fits m ∙ wrong_code key bytes code fits short (size key text bytes code fits m) f)
mac_row_holds key text (code_fits bytes fits m short) =
    sym (by_code key text bytes _ fits m ∙ right_code key bytes _ fits short (size key text bytes _ fits m) refl)

pub row_holds : (key text : List ℕ) {v : Verdict} {s : Session} → Answered key text v s → Answers key text v s
row_holds key text (mac_refused {s} {number} row f l) = refused_by_lem key text number s (sym (mac_row_holds key text row)) f l
row_holds key text (bad_sheet {s} bytes number line fits m short bad l) =
    let (verdict, not_0) = (sheets.refuses bytes number line).1 bad in
    rw (sheet_read key text bytes fits m short)
    (sym verdict, sheets.one_session s (sheet_of bytes).session [] l (sheets.refused bytes (rw verdict not_0)))
row_holds key text (is_read {s} es fits k l) =
    rw (keyed_sheet key text es k fits) (
      sym (sheets.from_start k.bytes ∙ (sheets.judges k.bytes 0).1 (es, k.is_sheet)),
      sheets.one_session s (sheet_of k.bytes).session es l (sheets.lists k.bytes es k.is_sheet),
    )

-- every key and text have a row
abbrev SomeRow : (key text : List ℕ) → Type 0
SomeRow key text = (v : Verdict) × (s : Session) × Answered key text v s

-- whether a text ends in a MAC line
ends_or_not : (text : List ℕ) → ((bytes : List ℕ) × (code : List ℕ) × EndsInMac text bytes code) ⊎ ((bytes code : List ℕ) → EndsInMac text bytes code → ⊥)
ends_or_not text =
    elim (below_or_not (length text) 69) [
      | inl few ↦
          inr (λ bytes code m.
          let enough = (ends_judged text bytes code m).enough in
          omega arith)
      | inr enough ↦
          elim (either (begins_line text (length text - 69))) [
            | inr f ↦ inr (λ bytes code m. not_both _ f (ends_judged text bytes code m).begins)
            | inl begins ↦
                elim (either (is_good (mac_line_at text (length text - 69)).stop)) [
                  | inr f ↦ inr (λ bytes code m. not_both _ f (ap (λ (d : DigestField). is_good d.stop) (ends_judged text bytes code m).line))
                  | inl good ↦ inl (_, _, judged_ends text enough begins good)
                ]
          ]
    ]

-- the bytes of a text whose code fits: a sheet, or not
sheet_row : (key text bytes : List ℕ) → length key ≤ longest → EndsInMac text bytes (hmac key bytes) → 64 + length bytes ≤ longest → SomeRow key text
sheet_row key text bytes fits m short =
    elim (either (eqb (sheet_of bytes).verdict.number accepted)) [
      | inl good ↦
          let (es, sheet) = (sheets.accepts bytes).0 (eqb-true _ _ good) in
          let k : IsKeyedSheet key text es = record { bytes = bytes; line = m.line; is_sheet = sheet; is_mac_line = m.is_mac_line; whole = m.whole } in
          (_, (sheet_of bytes).session, is_read es fits k (sheets.lists bytes es sheet))
      | inr bad ↦
          let f = eqb-false _ _ bad in
          (_, (sheet_of bytes).session, bad_sheet bytes _ _ fits m short ((sheets.refuses bytes _ _).0 (refl, f)) (sheets.refused bytes f))
    ]

-- the number's own row
pub own_mac_row : (key text : List ℕ) → (number : ℕ) × MacRow key text number
own_mac_row key text =
    elim (below_or_not longest (length key)) [
      | inl past ↦ (_, long_key past)
      | inr fits ↦
          elim (ends_or_not text) [
            | inr none ↦ (_, no_mac_line_row fits none)
            | inl (bytes, code, m) ↦
                elim (below_or_not longest (64 + length bytes)) [
                  | inl past ↦ (_, long_text bytes code fits m past)
                  | inr short ↦
                      elim (either (same code (hmac key bytes))) [
                        | inl e ↦ (_, code_fits bytes fits (subst (EndsInMac text bytes) (same_equal code (hmac key bytes) e) m) short)
                        | inr f ↦ (_, other_code_row bytes code fits m short (λ e. not_both _ f (equal_same code (hmac key bytes) e)))
                      ]
                ]
          ]
    ]

pub mac_numbers : (key text : List ℕ) (number : ℕ) → (number ≡ mac_number key text) ↔ MacRow key text number
mac_numbers key text number = (
  λ e. let (n, row) = own_mac_row key text in subst (MacRow key text) (mac_row_holds key text row ∙ sym e) row,
  mac_row_holds key text,
)

by_mac_row : (key text : List ℕ) {number : ℕ} → MacRow key text number → SomeRow key text
by_mac_row key text (long_key past) = (_, empty_session, mac_refused (long_key past) (λ a. omega arith) lists_none)
by_mac_row key text (no_mac_line_row fits none) = (_, empty_session, mac_refused (no_mac_line_row fits none) (λ a. omega arith) lists_none)
by_mac_row key text (long_text bytes code fits m past) = (_, empty_session, mac_refused (long_text bytes code fits m past) (λ a. omega arith) lists_none)
by_mac_row key text (other_code_row bytes code fits m short f) = (_, empty_session, mac_refused (other_code_row bytes code fits m short f) (λ a. omega arith) lists_none)
by_mac_row key text (code_fits bytes fits m short) = sheet_row key text bytes fits m short

some_row : (key text : List ℕ) → SomeRow key text
some_row key text = by_mac_row key text (own_mac_row key text).1

pub answers : (key text : List ℕ) (v : Verdict) (s : Session) → Answers key text v s ↔ Answered key text v s
answers key text v s = (holds_row, row_holds key text)
  where
    holds_row : Answers key text v s → Answered key text v s
    holds_row (ev, es) =
        let (v', s', row) = some_row key text in
        let (fv, fs) = row_holds key text row in
        subst (λ (x : Verdict). Answered key text x s) (fv ∙ sym ev) (subst (λ (x : Session). Answered key text v' x) (fs ∙ sym es) row)
