-- The crate's promises, proved. Assumes nothing.
use mathlib.Core.Path.{refl}
use Rattle.reader.specs.Reader.{begin_of, moved, header_read, line_read}
use Rattle.reader.specs.Promises.{Promises}

pub proved : Promises
unfolding begin_of moved header_read line_read
proved = record { begins = λ text. refl; reads_header = λ r. refl; reads_line = λ r. refl }
