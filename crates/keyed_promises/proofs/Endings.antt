-- A text ends in a MAC line exactly when its last 69 bytes are judged to be one. Assumes nothing.
use Prim.Native.Nat.{ℕ, zero, suc, ◌+◌, ◌-◌, ◌≤◌}
use mathlib.Core.Path.{◌≡◌, refl, sym, ap, ◌∙◌}
use mathlib.Core.Logic.{inl, inr}
use mathlib.Core.List.{List, [], ◌∷◌, ◌++◌, append_assoc, append-nil}
use mathlib.Core.Bool.{true}
use native.Mathlib.Omega.{arith}
use borrow.Author.Tests.{eqb-true, eq-eqb}
use lib.ListN.{length, get_or, take, drop, length-append, take-append-drop, drop_of_length-le}
use lib.Seq.{take_at, drop_at, take-suc, get_or_at}
use Rattle.lines.specs.Reading.{is_good}
use Rattle.lines.specs.Fields.{good_digest}
use Rattle.lines.specs.declared.Entry.{Entry}
use Rattle.sheet_promises.specs.Grammar.{IsLine, Lines, no_line, line, IsSheet}
use Rattle.keyed.specs.Keyed.{begins_line, mac_line_at}
use Rattle.keyed.proofs.Judging.{begins_first, begins_behind}
use Rattle.keyed_promises.specs.Grammar.{LineBegins, EndsInMac}
use Rattle.keyed_promises.proofs.MacLines.{mac_length_lem, mac_read, mac_stands}

-- what the reader asks of the last 69 bytes
pub record Judged (text bytes code : List ℕ) : Type 0 where
  pub enough : 69 ≤ length text
  pub begins : begins_line text (length text - 69) ≡ true
  pub line : mac_line_at text (length text - 69) ≡ good_digest code (length text)
  pub before : take (length text - 69) text ≡ bytes

-- a line begins behind bytes that end with LF
begins_there : (bytes rest : List ℕ) → LineBegins bytes → begins_line (bytes ++ rest) (length bytes) ≡ true
unfolding LineBegins
begins_there bytes rest (inl none) = begins_first (bytes ++ rest) (length bytes) (ap length none)
begins_there bytes rest (inr (front, ends)) =
    let n : length bytes ≡ length front + 1 = ap length ends ∙ length-append front (10 ∷ []) in
    let place : length bytes - 1 ≡ length front = omega arith in
    let stands : get_or (bytes ++ rest) (length bytes - 1) 0 ≡ 10 =
    ap (λ (k : ℕ). get_or (bytes ++ rest) k 0) place
    ∙ ap (λ (b : List ℕ). get_or (b ++ rest) (length front) 0) ends
    ∙ ap (λ (t : List ℕ). get_or t (length front) 0) (append_assoc front (10 ∷ []) rest)
    ∙ get_or_at front 10 rest 0 (length front) refl in
    begins_behind (bytes ++ rest) (length bytes) (λ z. omega arith) (omega (arith, length-append bytes rest)) ∙ eq-eqb _ _ stands

-- and where one begins, the bytes before end so
there_begins : (text : List ℕ) (at : ℕ) → at ≤ length text → begins_line text at ≡ true → LineBegins (take at text)
unfolding LineBegins
there_begins text zero within b = inl refl
there_begins text (suc n) within b =
    let place : suc n - 1 ≡ n = omega arith in
    let ends : get_or text n 0 ≡ 10 =
    ap (λ (k : ℕ). get_or text k 0) (sym place) ∙ eqb-true _ _ (sym (begins_behind text (suc n) (λ z. omega arith) within) ∙ b) in
    inr (take n text, take-suc text n 0 (omega arith) ∙ ap (λ (k : ℕ). take n text ++ (k ∷ [])) ends)

pub ends_judged : (text bytes code : List ℕ) → EndsInMac text bytes code → Judged text bytes code
ends_judged text bytes code m =
    let l = mac_length_lem m.line code m.is_mac_line in
    let n : length text ≡ length bytes + length m.line = ap length m.whole ∙ length-append bytes m.line in
    let place : length text - 69 ≡ length bytes = omega arith in
    let stands : drop (length bytes) text ≡ m.line ++ [] =
    ap (drop (length bytes)) m.whole ∙ drop_at bytes m.line (length bytes) refl ∙ sym (append-nil m.line) in
    record {
      enough = omega arith;
      begins = rw place (rw m.whole (begins_there bytes m.line m.line_begins));
      line = rw place (mac_read text m.line [] code (length bytes) m.is_mac_line stands ∙ ap (good_digest code) (sym n));
      before = rw place (ap (take (length bytes)) m.whole ∙ take_at bytes m.line (length bytes) refl);
    }

module _ (text : List ℕ) (enough : 69 ≤ length text) (begins : begins_line text (length text - 69) ≡ true) (good : is_good (mac_line_at text (length text - 69)).stop ≡ true) where
  pub judged_ends : EndsInMac text (take (length text - 69) text) (mac_line_at text (length text - 69)).digest
  judged_ends =
      let place = length text - 69 in
      let s = mac_stands text place good in
      let l = mac_length_lem s.piece _ s.is_mac_line in
      let next = s.part.ends in
      let all : drop place text ≡ s.piece =
      s.part.cut
      ∙ ap (λ (r : List ℕ). s.piece ++ r) (drop_of_length-le text {i = (mac_line_at text place).stop.at} (omega arith))
      ∙ append-nil s.piece in
      record {
        line = s.piece;
        is_mac_line = s.is_mac_line;
        line_begins = there_begins text place (omega arith) begins;
        whole = sym (take-append-drop place text) ∙ ap (λ (r : List ℕ). take place text ++ r) all;
      }

-- a sheet ends with LF
behind : (first piece : List ℕ) → (front : List ℕ) × (piece ≡ front ++ (10 ∷ [])) → (front : List ℕ) × (first ++ piece ≡ front ++ (10 ∷ []))
behind first piece (front, e) = (first ++ front, ap (λ (p : List ℕ). first ++ p) e ∙ sym (append_assoc first front (10 ∷ [])))

ends_line : (piece : List ℕ) (e : Entry) → IsLine piece e → (front : List ℕ) × (piece ≡ front ++ (10 ∷ []))
ends_line piece e l =
    let (front, w) = behind l.note _ (behind l.size _ (behind l.start _ (behind l.end _ (behind l.digest _ ([], refl))))) in
    (front, l.whole ∙ w)

ends_lines : (header text : List ℕ) (es : List Entry) → (front : List ℕ) × (header ≡ front ++ (10 ∷ [])) → Lines text es
    → (front : List ℕ) × (header ++ text ≡ front ++ (10 ∷ []))
ends_lines header text es (front, h) no_line = (front, append-nil header ∙ h)
ends_lines header text es h (line {text = piece} {rest = rest} {e = e} l more) =
    let (front, w) = ends_lines (header ++ piece) rest _ (behind header piece (ends_line piece e l)) more in
    (front, sym (append_assoc header piece rest) ∙ w)

pub sheet_begins : (bytes : List ℕ) (es : List Entry) → IsSheet bytes es → LineBegins bytes
unfolding LineBegins
sheet_begins bytes es s =
    let h = s.is_header in
    let (first, w) = behind (0x52 ∷ 0x41 ∷ 0x4e ∷ 0x4b ∷ 9 ∷ 0x31 ∷ 9 ∷ []) h.field (h.is_count.number, h.is_count.whole) in
    let (front, w) = ends_lines s.header s.lines es (first, h.whole ∙ w) s.are_lines in
    inr (front, s.whole ∙ w)
