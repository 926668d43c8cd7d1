-- The crate's promises, proved. Assumes nothing.
use Prim.Native.Nat.{ℕ}
use mathlib.Core.Path.{◌≡◌, refl, sym, ap, ◌∙◌}
use mathlib.Core.List.{List, [], ◌∷◌, ◌++◌}
use native.Mathlib.Omega.{arith}
use lib.ListN.{length}
use Rattle.rules.specs.declared.Record.{Record}
use Rattle.session.specs.Operations.{ask}
use Rattle.session.specs.declared.Session.{Session}
use Rattle.slots.specs.declared.Answer.{Answer}
use Rattle.lines.specs.declared.Entry.{Entry}
use Rattle.sheet.specs.Judging.{sheet_of}
use Rattle.sheet.specs.declared.Verdict.{Verdict}
use Rattle.sheet_promises.specs.Grammar.{IsSheet}
use Rattle.sheet_promises.specs.Faults.{Refused}
use Rattle.sheet_promises.specs.Promises.{Among}
use Rattle.sheet_promises.proofs.Proved.{proved as sheets}
use Rattle.promises.specs.Demand3.{Promised}
use Rattle.promises.proofs.Proved.{proved as demands}
use Rattle.report.specs.Report.{note_line, refused_line, line_of, report}
use Rattle.report.proofs.Proved.{proved as reports}
use Rattle.loader.specs.Loading.{ShownOf, refused, loaded}
use Rattle.program_promises.specs.Promises.{LineTells, lines_of, Told, Promises}
use Rattle.program_promises.proofs.Files.{files}
use Rattle.program_promises.proofs.Reached.{Reached, loaded_reached}
use Rattle.program_promises.proofs.Rising.{report_in_order}

-- the line of a note that is promised so
module _ (s : Session) (note : ℕ) (r : Record) (bytes : List ℕ) (p : Promised s note r bytes) where
  line_of_lem : (a : Answer) → ask s note ≡ a → a.number ≡ 0 → line_of note (ask s note) ≡ note_line note a
  line_of_lem a e good = ap (line_of note) e ∙ reports.listed note a good

  decided_so : (status : ℕ) → length bytes ≡ r.length → (ask s note).status ≡ status → ask s note ≡ record { number = 0; status = status; taken = length bytes }
  decided_so status full is =
      p.decides full
      ∙ ap (λ (x : ℕ). record { number = 0; status = x; taken = length bytes }) (sym (ap (λ (a : Answer). a.status) (p.decides full)) ∙ is)

  pub tells : LineTells note r bytes (line_of note (ask s note))
  tells =
      record {
        within = p.within;
        waits = λ less. line_of_lem _ (p.waits less) refl;
        opens = λ full same. line_of_lem _ (decided_so 2 full ((p.opens full).1 same)) refl;
        shuts = λ full other. line_of_lem _ (decided_so 3 full ((p.shuts full).1 other)) refl;
      }

-- a number that the sheet does not list has no line
module _ (text : List ℕ) (es : List Entry) (is : IsSheet text es) (s : Session) (way : Reached (sheet_of text).session s) where
  no_line : (note : ℕ) → ((e : Entry) → Among e es → e.note ≡ note → ⊥) → line_of note (ask s note) ≡ []
  no_line note none =
      let unlisted = (rw (← way.reached) at (demands.demand3.others text es is note none way.deliveries)).asked in
      reports.not_listed note (ask s note) (λ good. let same : ◌≡◌ {A = ℕ} 0 5 = sym good ∙ ap (λ (a : Answer). a.number) unlisted in omega arith)

  told : Told text es (report s)
  told =
      record {
        session = s;
        deliveries = way.deliveries;
        reached = way.reached;
        whole = refl;
        in_order = report_in_order s es is.obeyed no_line;
        lines = λ e among. tells s e.note e.sample _ (rw (← way.reached) at (demands.demand3.listed text es is e among way.deliveries));
        no_line = no_line;
      }

shown_accepted : (text : List ℕ) (es : List Entry) (printed : List ℕ) → IsSheet text es → ShownOf text printed → Told text es printed
shown_accepted text es printed is (refused bad) = absurd (bad ((sheets.accepts text).1 (es, is)))
shown_accepted text es printed is (loaded {s = s} good l) = told text es is s (loaded_reached (sheet_of text).session s 32 l)

shown_refused : (text : List ℕ) (number line : ℕ) (printed : List ℕ) → Refused text number line → ShownOf text printed → printed ≡ refused_line number line
shown_refused text number line printed r (refused bad) =
    let e = ((sheets.refuses text number line).1 r).0 in ap (λ (v : Verdict). refused_line v.number v.line) e
shown_refused text number line printed r (loaded good l) =
    let e = (sheets.refuses text number line).1 r in
    absurd (e.1 (sym (ap (λ (v : Verdict). v.number) e.0) ∙ good))

lines_end : (s : Session) → lines_of s [] ≡ []
unfolding lines_of
lines_end s = refl

lines_next : (s : Session) (e : Entry) (es : List Entry) → lines_of s (e ∷ es) ≡ line_of e.note (ask s e.note) ++ lines_of s es
unfolding lines_of
lines_next s e es = refl

pub proved : Promises
proved =
    record {
      files = files;
      no_lines = λ s. lines_end s;
      more_lines = λ s e es. lines_next s e es;
      loads = λ s t l. let way = loaded_reached s t 32 l in (way.deliveries, way.reached);
      accepted = shown_accepted;
      refused = shown_refused;
    }
