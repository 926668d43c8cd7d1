-- What is read as a line is one, and each line is read. Assumes nothing.
use Prim.Native.Nat.{ℕ, ◌+◌}
use mathlib.Core.Path.{◌≡◌, refl, sym, ap, ◌∙◌}
use mathlib.Core.List.{List, [], ◌∷◌, ◌++◌}
use mathlib.Core.Bool.{Bool, true, false, cond}
use native.Mathlib.Omega.{arith}
use lib.ListN.{length, drop}
use Rattle.decimal.specs.Reading.{is_figure}
use Rattle.lines.specs.declared.Stop.{Stop}
use Rattle.lines.specs.Reading.{word, separator, tab, lf, good_stop, is_good, mark_at, word_at, mark_after, word_after}
use Rattle.lines.specs.declared.Field.{Field}
use Rattle.lines.specs.Fields.{DigestField, good_field, field_at, digest_at, field_after, digest_after}
use Rattle.lines.specs.Lines.{good_line, line_fault, note_line, header_line, edition1}
use Rattle.lines.specs.declared.Entry.{Entry}
use Rattle.sheet_promises.specs.Grammar.{IsLine, IsHeader}
use Rattle.sheet_promises.proofs.Standing.{Part, part_of, joins_at, front_part, back_part}
use Rattle.sheet_promises.proofs.Steps.{followed, mark_read, mark_stands, word_read, word_stands, field_read, field_stands}
use Rattle.sheet_promises.proofs.Digests.{digest_read, digest_stands}

-- a line that stands at a place is read
pub line_read : (text piece rest : List ℕ) (at : ℕ) (e : Entry) → IsLine piece e → drop at text ≡ piece ++ rest
    → note_line text at ≡ good_line e (at + length piece)
unfolding note_line field_after digest_after mark_after is_figure
line_read text piece rest at e l stands =
    let s = rw l.whole at (part_of text piece rest at stands) in
    let note = front_part l.note _ s in
    let s₁ = back_part l.note _ s in
    let size = front_part l.size _ s₁ in
    let s₂ = back_part l.size _ s₁ in
    let start = front_part l.start _ s₂ in
    let s₃ = back_part l.start _ s₂ in
    let end = front_part l.end _ s₃ in
    let s₄ = back_part l.end _ s₃ in
    let digest = front_part l.digest _ s₄ in
    let close = back_part l.digest _ s₄ in
    rw (
      field_read text l.note at _ e.note tab refl l.is_note_lem note,
      field_read text l.size _ _ e.sample.length tab refl l.is_length size,
      field_read text l.start _ _ e.sample.loop_start tab refl l.is_start start,
      field_read text l.end _ _ e.sample.loop_end tab refl l.is_end end,
      digest_read text l.digest e.sample.digest _ _ l.is_digest digest,
      mark_read text _ _ lf separator close,
    )
    (ap (λ (p : List ℕ). good_line e (at + length p)) (sym l.whole))

-- the steps that a note line is read by
module _ (text : List ℕ) (at : ℕ) where
  abbrev note : Field
  note = field_after text (good_stop at) tab

  abbrev size : Field
  size = field_after text note.stop tab

  abbrev start : Field
  start = field_after text size.stop tab

  abbrev end : Field
  end = field_after text start.stop tab

  abbrev digest : DigestField
  digest = digest_after text end.stop

  abbrev close : Stop
  close = mark_after text digest.stop lf separator

  abbrev read : Entry
  read =
      record {
        note = note.value;
        sample = record { length = size.value; loop_start = start.value; loop_end = end.value; digest = digest.digest };
      }

-- where a field ends
abbrev place : Field → ℕ
place f = f.stop.at

-- what is read as a line stands there
pub record LineStands (text : List ℕ) (at : ℕ) : Type 0 where
  pub piece : List ℕ
  pub is_line : IsLine piece (note_line text at).entry
  pub part : Part text at piece (note_line text at).stop.at

module _ (text : List ℕ) (at : ℕ) (h : is_good (note_line text at).stop ≡ true) where
  -- the last step ended well, and so did each before it
  closes : is_good (close text at) ≡ true
  unfolding note_line
  closes = go (is_good (close text at)) refl h
    where
      go : (b : Bool) → is_good (close text at) ≡ b
          → is_good (cond b (record { stop = close text at; entry = read text at }) (line_fault (close text at))).stop ≡ true → b ≡ true
      go true e h = refl
      go false e h = sym e ∙ h

  is_read : note_line text at ≡ record { stop = close text at; entry = read text at }
  unfolding note_line
  is_read = simp closes

  closed : (is_good (digest text at).stop ≡ true) × (close text at ≡ mark_at text (digest text at).stop.at lf separator)
  unfolding mark_after
  closed = followed (λ s. s) (digest text at).stop _ _ refl closes

  digested : (is_good (end text at).stop ≡ true) × (digest text at ≡ digest_at text (end text at).stop.at)
  unfolding digest_after
  digested = followed (λ (d : DigestField). d.stop) (end text at).stop _ _ refl closed.0

  ended : (is_good (start text at).stop ≡ true) × (end text at ≡ field_at text (start text at).stop.at tab)
  unfolding field_after
  ended = followed (λ (f : Field). f.stop) (start text at).stop _ _ refl digested.0

  started : (is_good (size text at).stop ≡ true) × (start text at ≡ field_at text (size text at).stop.at tab)
  unfolding field_after
  started = followed (λ (f : Field). f.stop) (size text at).stop _ _ refl ended.0

  sized : (is_good (note text at).stop ≡ true) × (size text at ≡ field_at text (note text at).stop.at tab)
  unfolding field_after
  sized = followed (λ (f : Field). f.stop) (note text at).stop _ _ refl started.0

  noted : note text at ≡ field_at text at tab
  unfolding field_after
  noted = refl

  pub line_stands : LineStands text at
  line_stands =
      let n = field_stands text at tab (rw noted at sized.0) in
      let l = field_stands text (note text at).stop.at tab (rw sized.1 at started.0) in
      let s = field_stands text (size text at).stop.at tab (rw started.1 at ended.0) in
      let e = field_stands text (start text at).stop.at tab (rw ended.1 at digested.0) in
      let d = digest_stands text (end text at).stop.at (rw digested.1 at closed.0) in
      let c = mark_stands text (digest text at).stop.at lf separator (λ z. omega arith) (rw closed.1 at closes) in
      let line : IsLine (n.piece ++ (l.piece ++ (s.piece ++ (e.piece ++ (d.piece ++ (lf ∷ [])))))) (read text at) =
      record {
        note = n.piece;
        size = l.piece;
        start = s.piece;
        end = e.piece;
        digest = d.piece;
        is_note_lem = rw noted n.is_field;
        is_length = rw sized.1 l.is_field;
        is_start = rw started.1 s.is_field;
        is_end = rw ended.1 e.is_field;
        is_digest = rw digested.1 d.is_digest;
        whole = refl;
      } in
      let last : Part text (digest text at).stop.at (lf ∷ []) (close text at).at = rw closed.1 c in
      let all =
      joins_at (ap place noted) n.part
      (joins_at (ap place sized.1) l.part
      (joins_at (ap place started.1) s.part
      (joins_at (ap place ended.1) e.part (joins_at (ap (λ (x : DigestField). x.stop.at) digested.1) d.part last)))) in
      record { piece = n.piece ++ (l.piece ++ (s.piece ++ (e.piece ++ (d.piece ++ (lf ∷ []))))); is_line = rw is_read line; part = rw is_read all }

-- a header that stands at a place is read
pub header_read : (text piece rest : List ℕ) (at count : ℕ) → IsHeader piece count → drop at text ≡ piece ++ rest
    → header_line text at edition1 ≡ good_field count (at + length piece)
unfolding header_line word_after mark_after field_after is_figure
header_read text piece rest at count h stands =
    let s = rw h.whole at (part_of text piece rest at stands) in
    let rank : List ℕ = 0x52 ∷ 0x41 ∷ 0x4e ∷ 0x4b ∷ [] in
    let s₁ = back_part rank _ s in
    let s₂ = back_part (tab ∷ []) _ s₁ in
    let s₃ = back_part (edition1 ∷ []) _ s₂ in
    let s₄ = back_part (tab ∷ []) _ s₃ in
    rw (
      word_read text rank at _ word (front_part rank _ s),
      mark_read text _ _ tab separator (front_part (tab ∷ []) _ s₁),
      mark_read text _ _ edition1 word (front_part (edition1 ∷ []) _ s₂),
      mark_read text _ _ tab separator (front_part (tab ∷ []) _ s₃),
    )
    (field_read text h.field _ _ count lf refl h.is_count s₄ ∙ ap (λ (p : List ℕ). good_field count (at + length p)) (sym h.whole))

-- the steps that it is read by
module _ (text : List ℕ) (at : ℕ) where
  abbrev rank : Stop
  rank = word_after text (good_stop at) (0x52 ∷ 0x41 ∷ 0x4e ∷ 0x4b ∷ []) word

  abbrev first : Stop
  first = mark_after text rank tab separator

  abbrev figure : Stop
  figure = mark_after text first edition1 word

  abbrev second : Stop
  second = mark_after text figure tab separator

abbrev stopped : Stop → ℕ
stopped s = s.at

-- what is read as a header stands there
pub record HeaderStands (text : List ℕ) (at : ℕ) : Type 0 where
  pub piece : List ℕ
  pub is_header : IsHeader piece (header_line text at edition1).value
  pub part : Part text at piece (header_line text at edition1).stop.at

module _ (text : List ℕ) (at : ℕ) (h : is_good (header_line text at edition1).stop ≡ true) where
  counted : (is_good (second text at) ≡ true) × (header_line text at edition1 ≡ field_at text (second text at).at lf)
  unfolding header_line field_after
  counted = followed (λ (f : Field). f.stop) (second text at) _ _ refl h

  parted : (is_good (figure text at) ≡ true) × (second text at ≡ mark_at text (figure text at).at tab separator)
  unfolding mark_after
  parted = followed (λ s. s) (figure text at) _ _ refl counted.0

  figured : (is_good (first text at) ≡ true) × (figure text at ≡ mark_at text (first text at).at edition1 word)
  unfolding mark_after
  figured = followed (λ s. s) (first text at) _ _ refl parted.0

  tabbed : (is_good (rank text at) ≡ true) × (first text at ≡ mark_at text (rank text at).at tab separator)
  unfolding mark_after
  tabbed = followed (λ s. s) (rank text at) _ _ refl figured.0

  ranked : rank text at ≡ word_at text at (0x52 ∷ 0x41 ∷ 0x4e ∷ 0x4b ∷ []) word
  unfolding word_after
  ranked = refl

  pub header_stands : HeaderStands text at
  header_stands =
      let r = word_stands text (0x52 ∷ 0x41 ∷ 0x4e ∷ 0x4b ∷ []) at word (λ z. omega arith) (rw ranked at tabbed.0) in
      let f = mark_stands text (rank text at).at tab separator (λ z. omega arith) (rw tabbed.1 at figured.0) in
      let g = mark_stands text (first text at).at edition1 word (λ z. omega arith) (rw figured.1 at parted.0) in
      let s = mark_stands text (figure text at).at tab separator (λ z. omega arith) (rw parted.1 at counted.0) in
      let c = field_stands text (second text at).at lf (rw counted.1 at h) in
      let number : Part text (second text at).at c.piece (header_line text at edition1).stop.at = rw counted.1 c.part in
      record {
        piece = 0x52 ∷ 0x41 ∷ 0x4e ∷ 0x4b ∷ tab ∷ edition1 ∷ tab ∷ c.piece;
        is_header = rw counted.1 (record { field = c.piece; is_count = c.is_field; whole = refl });
        part =
            joins_at (ap stopped ranked) r
            (joins_at (ap stopped tabbed.1) f (joins_at (ap stopped figured.1) g (joins_at (ap stopped parted.1) s number)));
      }
