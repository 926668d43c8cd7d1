-- "A length in bits, a length in bytes and a count of sample frames are three separate units in this product. One frame is two bytes."
-- A length has an exact value in another unit, or it is said to have none.
use Rattle.std.specs.Prelude.{ℕ, ◌*◌, ◌-◌, ◌/◌, ◌%◌, ◌^◌, cond, ltb, eqb, Option, Some, None}
use Rattle.units.specs.declared.Bits.{Bits}
use Rattle.units.specs.declared.Bytes.{Bytes}
use Rattle.units.specs.declared.Frames.{Frames}

-- demand 2: "every message of whole bytes up to 2^61 - 1 of them": the most bytes whose bits can be counted
abbrev pub longest : ℕ
longest = 2 ^ 61 - 1

-- exactly n of a unit
abbrev pub in_bits : ℕ → Option Bits
in_bits n = Some (record { 0 = n })

abbrev pub in_bytes : ℕ → Option Bytes
in_bytes n = Some (record { 0 = n })

abbrev pub in_frames : ℕ → Option Frames
in_frames n = Some (record { 0 = n })

-- eight bits are a byte, and a count of bits is a number below 2^64
abbrev pub bits_of : Bytes → Option Bits
bits_of n = cond (ltb (n.0 * 8) (2 ^ 64)) (in_bits (n.0 * 8)) None

-- only whole bytes
abbrev pub bytes_of_bits : Bits → Option Bytes
bytes_of_bits n = cond (eqb (n.0 % 8) 0) (in_bytes (n.0 / 8)) None

-- two bytes are a frame: only whole frames
abbrev pub frames_of : Bytes → Option Frames
frames_of n = cond (eqb (n.0 % 2) 0) (in_frames (n.0 / 2)) None

-- and a count of bytes is a number below 2^64
abbrev pub bytes_of_frames : Frames → Option Bytes
bytes_of_frames n = cond (ltb (n.0 * 2) (2 ^ 64)) (in_bytes (n.0 * 2)) None
