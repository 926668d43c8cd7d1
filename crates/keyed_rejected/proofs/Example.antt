-- The example is a keyed sheet under its key, and not under the other. Assumes nothing.
use Prim.Native.Nat.{ℕ, ◌+◌, ◌-◌, ◌≤◌}
use mathlib.Core.Path.{◌≡◌, refl, sym, ap, ◌∙◌, subst}
use mathlib.Core.Bool.{true, false}
use mathlib.Core.Logic.{inl}
use mathlib.Core.List.{List, [], ◌++◌, append-nil}
use native.Mathlib.Omega.{arith}
use lib.ListN.{length, get_or, drop}
use Rattle.hex_digits.specs.Digits.{within, digit_of}
use Rattle.units.specs.Units.{longest}
use Rattle.word.specs.BigEndian.{big_endian}
use Rattle.lines.specs.Reading.{is_good, has_at, mark_after, word_at, word_after}
use Rattle.lines.specs.Lines.{header_line}
use Rattle.lines.specs.Fields.{field_after, digit_at, is_digit_at, pair_at, digest_from, digest_at}
use Rattle.printed.specs.Printed.{bytes_of}
use Rattle.mac.specs.Hmac.{hmac}
use Rattle.sheet.specs.Judging.{header_number, verdict_at, judged, sheet_of}
use Rattle.keyed.specs.Keyed.{begins_line}
use Rattle.sheet_promises.specs.Grammar.{IsDigest}
use Rattle.sheet_promises.proofs.Digests.{digest_stands}
use Rattle.sheet_promises.proofs.Proved.{proved as sheets}
use Rattle.rejected.specs.Example.{text, notes}
use Rattle.rejected.proofs.Proved.{proved as rejected}
use Rattle.keyed_promises.specs.Grammar.{IsMacLine, LineBegins, EndsInMac, IsKeyedSheet}
use Rattle.keyed_promises.proofs.Endings.{sheet_begins}
use Rattle.keyed_rejected.specs.Example.{key, other_key, code, code_by_other, code_of_none, characters, characters_of_none, mac_line, keyed_text, line_alone, not_begun}
use Rattle.keyed_rejected.proofs.Computed.{computed}

-- 64 characters that are read to their end are those of the code that is read
whole_digest : (characters bytes : List ℕ) → is_good (digest_at characters 0).stop ≡ true → drop (digest_at characters 0).stop.at characters ≡ []
    → (digest_at characters 0).digest ≡ bytes → IsDigest characters bytes
whole_digest characters bytes good ends is =
    let s = digest_stands characters 0 good in
    let all : s.piece ≡ characters = sym (s.part.cut ∙ ap (λ (r : List ℕ). s.piece ++ r) ends ∙ append-nil s.piece) in
    subst (IsDigest characters) is (subst (λ (t : List ℕ). IsDigest t (digest_at characters 0).digest) all s.is_digest)

are_code : IsDigest characters code
unfolding characters code bytes_of big_endian digest_at digest_from is_digit_at digit_at pair_at digit_of within
are_code = whole_digest characters code refl refl refl

are_code_of_none : IsDigest characters_of_none code_of_none
unfolding characters_of_none code_of_none bytes_of big_endian digest_at digest_from is_digit_at digit_at pair_at digit_of within
are_code_of_none = whole_digest characters_of_none code_of_none refl refl refl

is_mac_line : IsMacLine mac_line code
unfolding mac_line
is_mac_line = record { characters = characters; are_code = are_code; whole = refl }

pub is_keyed_sheet : IsKeyedSheet key keyed_text notes
unfolding keyed_text
is_keyed_sheet =
    record {
      bytes = text;
      line = mac_line;
      is_sheet = rejected.is_sheet;
      is_mac_line = subst (IsMacLine mac_line) (sym computed.example) is_mac_line;
      whole = refl;
    }

-- the codes differ in their first byte
first : List ℕ → ℕ
first bytes = get_or bytes 0 0

pub keys_differ : hmac key text ≡ hmac other_key text → ⊥
unfolding code code_by_other bytes_of big_endian first
keys_differ e =
    let same : first code ≡ first code_by_other = ap first (sym computed.example ∙ e ∙ computed.by_other) in
    omega arith

pub messages_differ : hmac key text ≡ hmac key [] → ⊥
unfolding code code_of_none bytes_of big_endian first
messages_differ e =
    let same : first code ≡ first code_of_none = ap first (sym computed.example ∙ e ∙ computed.of_none) in
    omega arith

-- they are of no great length
pub key_fits : length key ≤ longest
unfolding key
key_fits = omega arith

pub other_fits : length other_key ≤ longest
unfolding other_key
other_fits = omega arith

pub text_fits : 64 + length text ≤ longest
text_fits = omega (arith, sheets.size text notes rejected.is_sheet)

-- with the other key the code is another
pub ends : EndsInMac keyed_text text code
unfolding keyed_text
ends =
    record {
      line = mac_line;
      is_mac_line = is_mac_line;
      line_begins = sheet_begins text notes rejected.is_sheet;
      whole = refl;
    }

pub other_code_row : code ≡ hmac other_key text → ⊥
other_code_row e = keys_differ (computed.example ∙ e)

-- the MAC line alone, and one that does not begin a line
pub ends_alone : EndsInMac line_alone [] (hmac key [])
unfolding line_alone LineBegins
ends_alone =
    record {
      line = line_alone;
      is_mac_line =
          subst (IsMacLine line_alone) (sym computed.of_none) (record { characters = characters_of_none; are_code = are_code_of_none; whole = refl });
      line_begins = inl refl;
      whole = refl;
    }

pub begins_not : (69 ≤ length not_begun) × (begins_line not_begun (length not_begun - 69) ≡ false)
unfolding not_begun mac_line characters begins_line has_at
begins_not = (omega arith, refl)

-- no text is no sheet
pub nothing_read : (sheet_of []).verdict ≡ record { number = 1; line = 1 }
unfolding sheet_of judged header_number header_line word_after word_at mark_after field_after has_at verdict_at
nothing_read = refl
