-- What a C host is told of a call on a code state: it determines what the call answered (`all_updated` in Promises.antt).
use Rattle.std.specs.Prelude.{Result, Ok, Err}
use Rattle.refusal.specs.Table.{accepted, number_by}
use Rattle.refusal.specs.declared.Refusal.{Refusal}
use Rattle.mac.specs.declared.Code.{Code}
use Rattle.mac.specs.declared.CodeUpdated.{CodeUpdated}

-- refused, the state is one that stands instead: of an update the state as it was, of a start the empty key's
abbrev pub code_updated_of : (instead : Code) → Result Code Refusal → CodeUpdated
code_updated_of instead (Ok after) = record { number = accepted; state = after }
code_updated_of instead (Err refusal) = record { number = number_by refusal; state = instead }
