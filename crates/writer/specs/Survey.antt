-- What the writer finds out before it writes. These are steps of its code; what is written is said in the crate `writing`.
use Rattle.std.specs.Prelude.{cond, length, Result, Ok, Err}
use Rattle.refusal.specs.declared.Refusal.{Refusal}
use Rattle.refusal.specs.declared.Refusal.TheVariants
use Rattle.session.specs.declared.Session.{Session}
use Rattle.writing.specs.Texts.{lines_text}
use Rattle.writing.specs.Writing.{entries_of, unspoilt_to}
use Rattle.writer.specs.declared.Found.{Found}

-- what all 32 slots come to
unfoldable pub survey : Session → Result Found Refusal
survey s =
    cond (unspoilt_to s 32)
    (Ok (record { notes = length (entries_of s); size = length (lines_text (entries_of s)) }))
    (Err TheVariants.SlotNotInOrder)
