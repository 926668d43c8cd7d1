-- A reader that "goes through the lent text keeping its place in it": what it reads is what the sheet's definitions read at its place.
use Rattle.std.specs.Prelude.{ℕ, List, Result, Ok, Err}
use Rattle.std.specs.Borrow.{Bor}
use Rattle.lines.specs.declared.Fault.{Fault}
use Rattle.lines.specs.declared.Read.{Read}
use Rattle.lines.specs.declared.Field.{Field}
use Rattle.lines.specs.declared.NoteLine.{NoteLine}
use Rattle.lines.specs.Lines.{note_line}
use Rattle.sheet.specs.Judging.{header_at}
use Rattle.reader.specs.declared.SheetReader.{SheetReader}

-- what was read, and the reader past it: at the fault's place where there is one
pub record HeaderRead : Type 0 where
  pub field : Field
  pub rest : SheetReader

pub record LineRead : Type 0 where
  pub line : NoteLine
  pub rest : SheetReader

-- where a step of the code stopped
abbrev pub place_of : {A : Type 0} → Result (Read A) Fault → ℕ
place_of (Ok read) = read.next
place_of (Err fault) = fault.at

-- at the text's start
unfoldable pub begin_of : Bor (List ℕ) → SheetReader
begin_of text = record { text = text; at = 0 }

-- the reader at another place
unfoldable pub moved : SheetReader → (at : ℕ) → SheetReader
moved r at = record { text = r.text; at = at }

unfoldable pub header_read : SheetReader → HeaderRead
header_read r = let field = header_at r.text.now r.at in record { field = field; rest = moved r field.stop.at }

unfoldable pub line_read : SheetReader → LineRead
line_read r = let line = note_line r.text.now r.at in record { line = line; rest = moved r line.stop.at }
