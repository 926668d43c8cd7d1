-- What a sheet's verdict and its lines make of a session is the sheet's answer. Assumes nothing.
use Prim.Native.Nat.{ℕ}
use mathlib.Core.Path.{◌≡◌, refl, ap}
use Rattle.std.specs.Borrow.{Bor}
use Rattle.reader.specs.Reader.{begin_of, header_read}
use Rattle.reader.specs.declared.SheetReader.{SheetReader}
use mathlib.Core.List.{List}
use Rattle.session.specs.Sessions.{empty_session}
use Rattle.session.specs.declared.Session.{Session}
use Rattle.lines.specs.declared.Field.{Field}
use Rattle.sheet.specs.Judging.{header_at, judged, entries_at, with_notes, sheet_of}
use Rattle.sheet.specs.Filling.{start, with_listed}
use Rattle.sheet.specs.declared.Verdict.{Verdict}
use Rattle.sheet.specs.declared.Sheet.{Sheet}
use Rattle.sheet.specs.declared.Start.{Start}
use Rattle.sheet.proofs.Filling.{sheet_session}

-- the session, of the verdict, of where the note lines begin, and of the session that they are listed in, with their count
pub answered : (text : List ℕ) (v : Verdict) (h : Field) (from : Start) (s₀ s : Session) → v ≡ judged text 0 → h ≡ header_at text 0
    → from ≡ start h v → s₀ ≡ empty_session → s ≡ with_notes s₀ (entries_at from.notes text from.at)
    → (v ≡ (sheet_of text).verdict) × (with_listed s from.listed ≡ (sheet_of text).session)
answered text v h from s₀ s ev eh ef e₀ es =
    let whole : record { verdict = v; session = with_listed s from.listed } ≡ sheet_of text = sheet_session text v h from _ ev eh ef (rw (es, e₀)) in
    (ap (λ (r : Sheet). r.verdict) whole, ap (λ (r : Sheet). r.session) whole)

-- a reader begins at the text's first byte, and reads the header where it stands
pub begin_text : (text : Bor (List ℕ)) → (begin_of text).text.now ≡ text.now
unfolding begin_of
begin_text text = refl

pub begin_place : (text : Bor (List ℕ)) → (begin_of text).at ≡ 0
unfolding begin_of
begin_place text = refl

pub header_field : (r : SheetReader) → (header_read r).field ≡ header_at r.text.now r.at
unfolding header_read
header_field r = refl

pub ruleset reading_steps = (answered, begin_text, begin_place, header_field)
