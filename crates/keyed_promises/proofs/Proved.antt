-- The crate's promises, proved. Assumes nothing.
use Rattle.lines.specs.Fields.{DigestField}
use Prim.Native.Nat.{ℕ, ◌≤◌}
use mathlib.Core.Path.{◌≡◌, refl, sym, ap, ◌∙◌}
use mathlib.Core.List.{List, []}
use native.Mathlib.Omega.{arith}
use lib.ListN.{length, length-append}
use Rattle.refusal.specs.Table.{accepted}
use Rattle.units.specs.Units.{longest}
use Rattle.lines.specs.declared.Entry.{Entry}
use Rattle.session.specs.declared.Session.{Session}
use Rattle.sheet.specs.declared.Verdict.{Verdict}
use Rattle.sheet_promises.specs.Promises.{Lists}
use Rattle.sheet_promises.proofs.Sheets.{never_accepted}
use Rattle.sheet_promises.proofs.Proved.{proved as sheets}
use Rattle.keyed.specs.Keyed.{keyed_of}
use Rattle.keyed.proofs.Judging.{covered_none, covered_all, verdict_refused, verdict_passed}
use Rattle.keyed_promises.specs.Grammar.{LineBegins, EndsInMac, IsKeyedSheet}
use Rattle.keyed_promises.specs.Answers.{Answered, mac_refused, bad_sheet, is_read}
use Rattle.keyed_promises.specs.Promises.{Promises, AcceptsOf}
use Rattle.keyed_promises.proofs.MacLines.{mac_length_lem, code_length}
use Rattle.keyed_promises.proofs.Endings.{ends_judged}
use Rattle.keyed_promises.proofs.Rows.{answers, mac_numbers, keyed_sheet}

-- the reader's own row
own_row : (key text : List ℕ) → Answered key text (keyed_of key text).verdict (keyed_of key text).session
own_row key text = (answers key text _ _).0 (refl, refl)

-- an accepted row is a keyed sheet, and every other lists no note
accepted_row : {key text : List ℕ} {v : Verdict} {s : Session} → Answered key text v s → v.number ≡ accepted
    → (length key ≤ longest) × ((es : List Entry) × IsKeyedSheet key text es)
accepted_row (mac_refused row f l) a = absurd (f a)
accepted_row (bad_sheet bytes number line fits m short bad l) a = absurd (never_accepted bytes number line bad a)
accepted_row (is_read es fits k l) a = (fits, (es, k))

refused_row : {key text : List ℕ} {v : Verdict} {s : Session} → Answered key text v s → (v.number ≡ accepted → ⊥) → Lists s []
refused_row (mac_refused row g l) f = l
refused_row (bad_sheet bytes number line fits m short bad l) f = l
refused_row (is_read es fits k l) f = absurd (f refl)

accepts : AcceptsOf keyed_of
accepts key text = (
  accepted_row (own_row key text),
  λ (fits, (es, k)).
      let verdict = sheets.from_start k.bytes ∙ (sheets.judges k.bytes 0).1 (es, k.is_sheet) in
      rw (keyed_sheet key text es k fits, verdict),
)

one_reading : (text bytes others code other : List ℕ) → EndsInMac text bytes code → EndsInMac text others other → (bytes ≡ others) × (code ≡ other)
one_reading text bytes others code other m n =
    let j = ends_judged text bytes code m in
    let k = ends_judged text others other n in
    (sym j.before ∙ k.before, ap (λ (d : DigestField). d.digest) (sym j.line ∙ k.line))

size : (key text : List ℕ) (es : List Entry) → IsKeyedSheet key text es → length text ≤ 3302
size key text es k =
    omega (
      arith,
      ap length k.whole,
      length-append k.bytes k.line,
      mac_length_lem k.line _ k.is_mac_line,
      sheets.size k.bytes es k.is_sheet,
    )

pub proved : Promises
unfolding LineBegins
proved =
    record {
      mac_line_lem = λ line code. (λ m. (m.characters, m.are_code, m.whole), λ (c, d, w). record { characters = c; are_code = d; whole = w });
      begins = λ bytes. (λ b. b, λ b. b);
      ends = λ text bytes code. (
        λ m. (m.line, m.is_mac_line, m.line_begins, m.whole),
        λ (l, i, b, w). record { line = l; is_mac_line = i; line_begins = b; whole = w },
      );
      keyed = λ key text es. (
        λ k. (k.bytes, k.line, k.is_sheet, k.is_mac_line, k.whole),
        λ (b, l, s, i, w). record { bytes = b; line = l; is_sheet = s; is_mac_line = i; whole = w },
      );
      answers = answers;
      mac_numbers = mac_numbers;
      covers = λ text. covered_all text 0 refl;
      covers_none = covered_none;
      passes = λ v. verdict_passed 0 v refl;
      passes_no_more = verdict_refused;
      accepts = accepts;
      same_session = λ key text es fits s. keyed_sheet key text es s fits;
      none_listed_lem = λ key text f. refused_row (own_row key text) f;
      one_reading = one_reading;
      mac_size = λ text bytes code m. (mac_length_lem m.line code m.is_mac_line, code_length m.line code m.is_mac_line);
      size = size;
    }
