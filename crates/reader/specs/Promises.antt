-- What a reader promises: where it begins, what it reads at its place, and where it stands then.
use Rattle.std.specs.Prelude.{◌≡◌, List, ℕ}
use Rattle.std.specs.Borrow.{Bor}
use Rattle.lines.specs.Lines.{note_line}
use Rattle.sheet.specs.Judging.{header_at}
use Rattle.reader.specs.Reader.{begin_of, header_read, line_read}
use Rattle.reader.specs.declared.SheetReader.{SheetReader}

pub record Promises : Type 0 where
  -- at the text's first byte
  pub begins : (text : Bor (List ℕ)) → begin_of text ≡ record { text = text; at = 0 }
  -- what stands at its place is read by the sheet's definitions, and the rest is the same text from where that stopped
  pub reads_header :
      (r : SheetReader)
      → header_read r
      ≡ record {
        field = header_at r.text.now r.at;
        rest = record { text = r.text; at = (header_at r.text.now r.at).stop.at };
      }
  pub reads_line :
      (r : SheetReader)
      → line_read r
      ≡ record {
        line = note_line r.text.now r.at;
        rest = record { text = r.text; at = (note_line r.text.now r.at).stop.at };
      }
