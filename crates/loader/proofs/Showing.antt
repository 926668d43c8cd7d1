-- The sheet that was read, and what is shown of it. Assumes nothing.
use Prim.Native.Nat.{ℕ, ◌≤◌}
use mathlib.Core.Path.{◌≡◌}
use mathlib.Core.List.{List}
use lib.ListN.{length}
use Rattle.refusal.specs.Table.{accepted}
use Rattle.session.specs.declared.Session.{Session}
use Rattle.sheet.specs.Judging.{sheet_of}
use Rattle.sheet.specs.declared.Sheet.{Sheet}
use Rattle.texts.specs.Texts.{text_of}
use Rattle.texts.specs.declared.Text.{Text}
use Rattle.texts.proofs.Parts.{text_within, said_bytes}
use Rattle.report.specs.Report.{refused_line, report}
use Rattle.loader.specs.Loading.{Loaded, SheetRead, refused, loaded, Shown}

pub sheet_read : (text : List ℕ) (sheet : Sheet) → sheet ≡ sheet_of text → length text ≤ 4096 → SheetRead sheet
sheet_read text sheet e fits = record { text = text; first = fits; read = e }

module _ (sheet : Sheet) (r : SheetRead sheet) (t : Text) where
  pub shows_refused : (sheet.verdict.number ≡ accepted → ⊥)
      → t ≡ text_of (refused_line sheet.verdict.number sheet.verdict.line) → Shown t
  shows_refused bad e =
      record {
        text = r.text;
        first = r.first;
        shows = rw (e, said_bytes) (rw r.read (refused (rw r.read at bad)));
        within = text_within t _ e;
      }

  pub shows_loaded : (s : Session) → sheet.verdict.number ≡ accepted → Loaded sheet.session s → t ≡ text_of (report s) → Shown t
  shows_loaded s good l e =
      record {
        text = r.text;
        first = r.first;
        shows = rw (e, said_bytes) (loaded (rw r.read at good) (rw r.read at l));
        within = text_within t _ e;
      }
