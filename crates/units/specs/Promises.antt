-- "conversions that are proved exact": each has its exact value exactly when there is one, and the way back gives the same length.
use Rattle.std.specs.Prelude.{◌*◌, ◌-◌, ◌/◌, ◌%◌, ◌^◌, ◌≤◌, ◌<◌, ◌≡◌, ◌↔◌, Some, None}
use Rattle.units.specs.Units.{longest, bits_of, bytes_of_bits, frames_of, bytes_of_frames}
use Rattle.units.specs.declared.Bits.{Bits}
use Rattle.units.specs.declared.Bytes.{Bytes}
use Rattle.units.specs.declared.Frames.{Frames}

pub record Promises : Type 0 where
  -- 2^61 - 1
  pub longest_is : longest ≡ 2305843009213693951
  -- bytes in bits: exact up to 2^61 - 1 bytes and there alone, and then eight for each byte
  pub bits_exact : (n : Bytes) → (bits_of n ≡ Some (record { 0 = 8 * n.0 })) ↔ (n.0 ≤ 2 ^ 61 - 1)
  pub bits_none : (n : Bytes) → (bits_of n ≡ None) ↔ (2 ^ 61 - 1 < n.0)
  -- bits in bytes: whole bytes alone
  pub bytes_exact : (n : Bits) → (bytes_of_bits n ≡ Some (record { 0 = n.0 / 8 })) ↔ (n.0 % 8 ≡ 0)
  pub bytes_none : (n : Bits) → (bytes_of_bits n ≡ None) ↔ (n.0 % 8 ≡ 0 → ⊥)
  -- there and back
  pub bits_and_back : (n : Bytes) (there : Bits) → bits_of n ≡ Some there → bytes_of_bits there ≡ Some n
  pub bytes_and_back : (n : Bits) (there : Bytes) → n.0 < 2 ^ 64 → bytes_of_bits n ≡ Some there → bits_of there ≡ Some n
  -- bytes in frames: an even count alone
  pub frames_exact : (n : Bytes) → (frames_of n ≡ Some (record { 0 = n.0 / 2 })) ↔ (n.0 % 2 ≡ 0)
  pub frames_none : (n : Bytes) → (frames_of n ≡ None) ↔ (n.0 % 2 ≡ 0 → ⊥)
  -- frames in bytes: exact up to 2^63 - 1 frames and there alone, and then two for each frame
  pub frames_in_bytes_exact : (n : Frames) → (bytes_of_frames n ≡ Some (record { 0 = 2 * n.0 })) ↔ (n.0 ≤ 2 ^ 63 - 1)
  pub frames_in_bytes_none : (n : Frames) → (bytes_of_frames n ≡ None) ↔ (2 ^ 63 - 1 < n.0)
  -- there and back
  pub frames_and_back : (n : Bytes) (there : Frames) → n.0 < 2 ^ 64 → frames_of n ≡ Some there → bytes_of_frames there ≡ Some n
  pub bytes_of_frames_and_back : (n : Frames) (there : Bytes) → bytes_of_frames n ≡ Some there → frames_of there ≡ Some n
