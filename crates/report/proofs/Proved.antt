-- The crate's promises, proved. Assumes nothing.
use mathlib.Core.Path.{refl}
use Rattle.decimal.specs.Writing.{decimal, figures_before}
use Rattle.texts.proofs.Parts.{said_bytes}
use Rattle.report.specs.Report.{word, refused_word, note_line, refused_line, lines_to, report}
use Rattle.report.specs.Promises.{Promises}
use Rattle.report.proofs.Lines.{listed, not_listed, report_short, word_shut}

pub proved : Promises
unfolding word refused_word note_line refused_line lines_to report decimal figures_before
proved =
    record {
      word_waiting = refl;
      word_open = refl;
      word_shut = refl;
      word_other = word_shut;
      open_line = refl;
      shut_line = refl;
      waiting_line = refl;
      refused_line_lem = refl;
      note_fields = λ note a. refl;
      refused_fields = λ number line. refl;
      listed = listed;
      not_listed = not_listed;
      begins = λ s. refl;
      rising = λ s n. refl;
      whole = λ s. refl;
      fits = report_short;
      said_whole = λ s. said_bytes (report s);
      said_refused = λ number line. said_bytes (refused_line number line);
    }
