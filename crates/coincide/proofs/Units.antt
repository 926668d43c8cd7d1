-- `units`: any two results that meet a contract coincide; and a contract is what is promised, of its own arguments. Assumes nothing.
use mathlib.Core.Logic.Iff
use Rattle.units.specs.Units.{bits_of, bytes_of_bits, frames_of, bytes_of_frames}
use Rattle.coincide.specs.Coincide.{Answers}
use Rattle.units.specs.contracts
use Rattle.units.proofs

pub Bits-bytes_means : Answers contracts.Bits.bytes.ended proofs.Bits.bytes.Reads.Post (λ κs a. bytes_of_bits a.0)
Bits-bytes_means κs a r e = Iff.rfl

pub Bytes-bits_means : Answers contracts.Bytes.bits.ended proofs.Bytes.bits.Reads.Post (λ κs a. bits_of a.0)
Bytes-bits_means κs a r e = Iff.rfl

pub Bytes-frames_means : Answers contracts.Bytes.frames.ended proofs.Bytes.frames.Reads.Post (λ κs a. frames_of a.0)
Bytes-frames_means κs a r e = Iff.rfl

pub Frames-bytes_means : Answers contracts.Frames.bytes.ended proofs.Frames.bytes.Reads.Post (λ κs a. bytes_of_frames a.0)
Frames-bytes_means κs a r e = Iff.rfl
