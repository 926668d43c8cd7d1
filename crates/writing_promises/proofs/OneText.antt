-- A text is determined by what it says. A digest is, as long as a hex digit has one letter: the rest rests on that by `one_digest` only. Assumes nothing.
use Prim.Native.Nat.{ℕ, ◌+◌, ◌*◌, ◌/◌, ◌%◌}
use mathlib.Core.Path.{◌≡◌, refl, sym, ap, ◌∙◌}
use mathlib.Core.List.{List, ◌∷◌, ◌++◌}
use native.Mathlib.Omega.{arith}
use lib.ListN.{length}
use Rattle.decimal.specs.Numbers.{IsNumber}
use Rattle.decimal.proofs.Proved.{proved as number}
use Rattle.hex_digits.proofs.Proved.{proved as hex}
use Rattle.lines.specs.declared.Entry.{Entry}
use Rattle.sheet_promises.specs.Grammar.{Pairs, no_pair, pair, IsDigest, IsField, IsHeader, IsLine, Lines, no_line, line, IsSheet}
use Rattle.writing.specs.Texts.{digest_text}

-- a byte's two digits are the ones that are written for it
pairs_written : (text bytes : List ℕ) → Pairs text bytes → text ≡ digest_text bytes
unfolding digest_text
pairs_written text bytes no_pair = refl
pairs_written text bytes (pair {first = a} {second = b} {text = t} {bytes = bs} high low dh dl more) =
    let below = ((hex.digit b low).0 dl).1 in
    let upper : (high * 16 + low) / 16 ≡ high = omega arith in
    let lower : (high * 16 + low) % 16 ≡ low = omega arith in
    cc (hex.one_letter a high dh, hex.one_letter b low dl, pairs_written t bs more)

-- and they are read as that byte
pairs_read : (text bytes others : List ℕ) → Pairs text bytes → Pairs text others → bytes ≡ others
pairs_read text bytes others no_pair no_pair = refl
pairs_read text bytes others (pair {first = a} {second = b} {text = t} {bytes = bs} high low dh dl more) (pair {bytes = cs} high' low' dh' dl' more') =
    cc (
      ((hex.digit a high).0 dh).0,
      ((hex.digit a high').0 dh').0,
      ((hex.digit b low).0 dl).0,
      ((hex.digit b low').0 dl').0,
      pairs_read t bs cs more more',
    )

pub one_bytes : (text bytes others : List ℕ) → IsDigest text bytes → IsDigest text others → bytes ≡ others
unfolding IsDigest
one_bytes text bytes others d e = pairs_read text bytes others d.0 e.0

pub one_digest : (text other bytes : List ℕ) → IsDigest text bytes → IsDigest other bytes → text ≡ other
unfolding IsDigest
one_digest text other bytes d e = pairs_written text bytes d.0 ∙ sym (pairs_written other bytes e.0)

pub one_field : (text other : List ℕ) (value ending : ℕ) → IsField text value ending → IsField other value ending → text ≡ other
unfolding IsNumber
one_field text other value ending f g =
    f.whole ∙ rw (number.one_spelling f.number g.number value f.is_number.0 g.is_number.0) (sym g.whole)

pub one_header : (text other : List ℕ) (count : ℕ) → IsHeader text count → IsHeader other count → text ≡ other
one_header text other count h k = h.whole ∙ rw (one_field h.field k.field count 10 h.is_count k.is_count) (sym k.whole)

pub one_line : (text other : List ℕ) (e : Entry) → IsLine text e → IsLine other e → text ≡ other
one_line text other e l m =
    l.whole
    ∙ rw (
      one_field l.note m.note _ _ l.is_note_lem m.is_note_lem,
      one_field l.size m.size _ _ l.is_length m.is_length,
      one_field l.start m.start _ _ l.is_start m.is_start,
      one_field l.end m.end _ _ l.is_end m.is_end,
      one_digest l.digest m.digest _ l.is_digest m.is_digest,
    )
    (sym m.whole)

pub one_lines : (text other : List ℕ) (es : List Entry) → Lines text es → Lines other es → text ≡ other
one_lines text other es no_line no_line = refl
one_lines text other es (line {text = front} {rest = rest} {e = e} {es = more} l ls) (line {text = front'} {rest = rest'} m ms) =
    rw (one_line front front' e l m, one_lines rest rest' more ls ms)

pub one_text : (text other : List ℕ) (es : List Entry) → IsSheet text es → IsSheet other es → text ≡ other
one_text text other es s t =
    s.whole
    ∙ rw (
      one_header s.header t.header (length es) s.is_header t.is_header,
      one_lines s.lines t.lines es s.are_lines t.are_lines,
    )
    (sym t.whole)
