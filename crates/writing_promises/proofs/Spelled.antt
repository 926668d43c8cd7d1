-- What is written is what the grammar asks for: fields, digests, lines and sheets; and a digest of the grammar is one as code stores it. Assumes nothing.
use Prim.Native.Nat.{ℕ, zero, suc, ◌+◌, ◌*◌, ◌/◌, ◌%◌, ◌<◌, ◌≤◌}
use mathlib.Core.Path.{◌≡◌, refl}
use mathlib.Core.List.{List, [], ◌∷◌}
use mathlib.Core.Bool.{true}
use native.Mathlib.Omega.{arith}
use lib.ListN.{length, get_or}
use Rattle.decimal.specs.Numbers.{IsNumber}
use Rattle.decimal.specs.Writing.{figures_before, decimal}
use Rattle.decimal.proofs.Proved.{proved as number}
use Rattle.hex_digits.specs.Digits.{letter_of}
use Rattle.hex_digits.proofs.Proved.{proved as hex}
use Rattle.rules.specs.Rules.{count_rule}
use Rattle.rules.proofs.Proved.{proved as rules}
use Rattle.lines.specs.Reading.{tab, lf}
use Rattle.lines.specs.declared.Entry.{Entry}
use Rattle.sheet_promises.specs.Grammar.{Pairs, no_pair, pair, IsDigest, IsField, IsHeader, IsLine, Lines, no_line, line, ObeysRules, AllObey, no_entry_lem, entry, IsSheet}
use Rattle.sheet_promises.specs.Promises.{Among, first, further}
use Rattle.sheet_promises.proofs.Digests.{two_a_byte}
use Rattle.rejected.specs.Example.{text, notes}
use Rattle.writing.specs.Texts.{field_text, digest_text, line_text, header_text, lines_text, sheet_text}
use Rattle.writing_promises.specs.Promises.{StoredDigest, StoredEntry}

-- a number and its ending
pub field_spelled : (value ending : ℕ) → value ≤ 4294967295 → IsField (field_text value ending) value ending
unfolding field_text IsNumber
field_spelled value ending fits = record { number = decimal value; is_number = (number.spells value, fits); whole = refl }

-- two digits a byte
pairs_spelled : (bytes : List ℕ) → ((i : ℕ) → i < length bytes → get_or bytes i 0 < 256) → Pairs (digest_text bytes) bytes
unfolding digest_text
pairs_spelled [] small = no_pair
pairs_spelled (byte ∷ bytes) small =
    let fits : byte < 256 = small 0 (omega arith) in
    let whole : byte / 16 * 16 + byte % 16 ≡ byte = omega arith in
    let more = pairs_spelled bytes (λ i below. small (suc i) (omega arith)) in
    rw whole at (pair (byte / 16) (byte % 16) (hex.letter (byte / 16) (omega arith)) (hex.letter (byte % 16) (omega arith)) more)

pub digest_spelled : (bytes : List ℕ) → StoredDigest bytes → IsDigest (digest_text bytes) bytes
unfolding IsDigest
digest_spelled bytes s =
    let pairs = pairs_spelled bytes (λ i below. s.bytes i (omega arith)) in
    (pairs, omega (arith, two_a_byte (digest_text bytes) bytes pairs))

pub header_spelled : (count : ℕ) → count ≤ 4294967295 → IsHeader (header_text count) count
unfolding header_text
header_spelled count fits = record { field = field_text count lf; is_count = field_spelled count lf fits; whole = refl }

pub line_spelled : (e : Entry) → StoredEntry e → IsLine (line_text e) e
unfolding line_text
line_spelled e s =
    record {
      note = field_text e.note tab;
      size = field_text e.sample.length tab;
      start = field_text e.sample.loop_start tab;
      end = field_text e.sample.loop_end tab;
      digest = digest_text e.sample.digest;
      is_note_lem = field_spelled e.note tab s.note;
      is_length = field_spelled e.sample.length tab s.size;
      is_start = field_spelled e.sample.loop_start tab s.start;
      is_end = field_spelled e.sample.loop_end tab s.end;
      is_digest = digest_spelled e.sample.digest s.digest;
      whole = refl;
    }

-- a line that obeys the rules has numbers that are small enough
obeying : (last : ℕ) (e : Entry) → ObeysRules last e → StoredDigest e.sample.digest → StoredEntry e
obeying last e o s =
    let notes = (rules.notes last e.note).0 o.note_rule_lem in
    let sizes = (rules.lengths e.sample.length).0 o.length_rule_lem in
    let loops = (rules.loops e.sample.length e.sample.loop_start e.sample.loop_end).0 o.loop_rule_lem in
    record { note = omega arith; size = omega arith; start = omega arith; end = omega arith; digest = s }

pub lines_spelled : (last : ℕ) (es : List Entry) → AllObey last es → ((e : Entry) → Among e es → StoredDigest e.sample.digest) → Lines (lines_text es) es
unfolding lines_text
lines_spelled last es no_entry_lem stored = no_line
lines_spelled last es (entry {e = e} {es = more} o os) stored =
    line (line_spelled e (obeying last e o (stored e first))) (lines_spelled e.note more os (λ d a. stored d (further a)))

pub sheet_spelled : (es : List Entry) → count_rule (length es) ≡ true → AllObey 0 es → ((e : Entry) → Among e es → StoredDigest e.sample.digest)
    → IsSheet (sheet_text es) es
unfolding sheet_text
sheet_spelled es few os stored =
    let counts = (rules.counts (length es)).0 few in
    record {
      header = header_text (length es);
      lines = lines_text es;
      is_header = header_spelled (length es) (omega arith);
      count_rule_lem = few;
      are_lines = lines_spelled 0 es os stored;
      obeyed = os;
      whole = refl;
    }

-- document 01's sheet
pub example_spelled : sheet_text notes ≡ text
unfolding sheet_text header_text lines_text line_text field_text digest_text letter_of decimal figures_before text
example_spelled = refl

-- two digits make a byte
pairs_small : (text bytes : List ℕ) → Pairs text bytes → (i : ℕ) → get_or bytes i 0 < 256
pairs_small text bytes no_pair i = omega arith
pairs_small text bytes (pair {first = a} {second = b} high low dh dl more) zero = omega (arith, ((hex.digit a high).0 dh).1, ((hex.digit b low).0 dl).1)
pairs_small text bytes (pair {text = t} {bytes = bs} high low dh dl more) (suc i) = pairs_small t bs more i

pub digest_stored : (text bytes : List ℕ) → IsDigest text bytes → StoredDigest bytes
unfolding IsDigest
digest_stored text bytes d =
    record { long = omega (arith, two_a_byte text bytes d.0); bytes = λ i below. pairs_small text bytes d.0 i }

pub lines_stored : (text : List ℕ) (es : List Entry) → Lines text es → (e : Entry) → Among e es → StoredDigest e.sample.digest
lines_stored _ _ no_line e among = elim among [ ]
lines_stored text es (line l ls) e first = digest_stored l.digest e.sample.digest l.is_digest
lines_stored text es (line {rest = rest} {es = more} l ls) e (further a) = lines_stored rest more ls e a
