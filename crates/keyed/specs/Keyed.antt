-- Reading a keyed sheet: 4/13. "A keyed sheet ends with one more line, `MAC`, tab, 64 hex characters, covering all bytes before that line."
use Rattle.std.specs.Prelude.{ℕ, ◌-◌, List, [], ◌∷◌, Bool, cond, true, ◌&&◌, leb, ltb, eqb, length, take}
use Rattle.refusal.specs.Table.{accepted, too_long, no_mac_line, other_code}
use Rattle.units.specs.Units.{longest}
use Rattle.lines.specs.Reading.{word, separator, tab, lf, good_stop, is_good, has_at, mark_after, word_after}
use Rattle.lines.specs.Fields.{DigestField, digest_fault, digest_after}
use Rattle.mac.specs.Codes.{compare_message}
use Rattle.session.specs.Sessions.{empty_session}
use Rattle.sheet.specs.Judging.{verdict_at, sheet_of}
use Rattle.sheet.specs.declared.Sheet.{Sheet}
use Rattle.sheet.specs.declared.Verdict.{Verdict}

-- the bytes of that line: the word, the tab, the characters and the LF
abbrev pub mac_length : ℕ
mac_length = 69

-- whether a line begins at a place: at the text's start, or behind an LF
unfoldable pub begins_line : (text : List ℕ) (at : ℕ) → Bool
begins_line text at = cond (eqb at 0) true (has_at text (at - 1) lf)

-- "`MAC`, tab, 64 hex characters", LF: at a place, where it stops, and the code in it
unfoldable pub mac_line_at : (text : List ℕ) (at : ℕ) → DigestField
mac_line_at text at =
    let mac = word_after text (good_stop at) (0x4d ∷ 0x41 ∷ 0x43 ∷ []) word in
    let digits = digest_after text (mark_after text mac tab separator) in
    record { stop = mark_after text digits.stop lf separator; digest = digits.digest }

-- the same line where it is well formed; a fault has no code
abbrev pub whole : DigestField → DigestField
whole line = cond (is_good line.stop) line (digest_fault line.stop)

-- "10 for the text, 18": the code of the bytes before the line, held against the one in it
unfoldable pub code_number : (key bytes code : List ℕ) → ℕ
code_number key bytes code =
    let c = compare_message key bytes code in
    cond (eqb c.number accepted) (cond c.same accepted other_code) c.number

-- "10 for the key, 17, 10 for the text, 18": the line is the last 69 bytes
unfoldable pub mac_number : (key text : List ℕ) → ℕ
mac_number key text =
    let at = length text - mac_length in
    let line = mac_line_at text at in
    cond (ltb longest (length key)) too_long
    (cond (leb mac_length (length text) && begins_line text at && is_good line.stop) (code_number key (take at text) line.digest)
    no_mac_line)

-- "all bytes before that line"; none where the number is a refusal
unfoldable pub covered : (text : List ℕ) (number : ℕ) → List ℕ
covered text number = cond (eqb number accepted) (take (length text - mac_length) text) []

-- "then 1 to 4; the first four return line 0": the verdict, from the number and what the sheet was judged
unfoldable pub keyed_verdict : (number : ℕ) → Verdict → Verdict
keyed_verdict number sheet = cond (eqb number accepted) sheet (verdict_at number 0)

-- "the rest is an accepted sheet, whose session it then gives"; "the first four return line 0 and a session with no note listed"
unfoldable pub keyed_of : (key text : List ℕ) → Sheet
keyed_of key text =
    let number = mac_number key text in
    cond (eqb number accepted) (sheet_of (covered text accepted)) (record { verdict = verdict_at number 0; session = empty_session })
