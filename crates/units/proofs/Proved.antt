-- The crate's promises, proved. Assumes nothing.
use mathlib.Core.Path.{refl}
use native.Mathlib.Nat.{mul_comm}
use Rattle.units.specs.Promises.{Promises}
use Rattle.units.proofs.Exact.{
  bits_are,
  no_bits,
  bytes_are,
  no_bytes,
  frames_are,
  no_frames,
  frames_in_bytes_are,
  no_frames_in_bytes,
  either,
  few,
  many,
  even,
  whole,
  few_frames,
  many_frames,
  bits_back,
  bytes_back,
  frames_back,
  frames_bytes_back,
}

pub proved : Promises
proved =
    record {
      longest_is = refl;
      bits_exact = λ n. (few n _, λ h. rw (mul_comm 8 n.0) (bits_are n h));
      bits_none = λ n. (many n, no_bits n);
      bytes_exact = λ n. (whole n _, bytes_are n);
      bytes_none = λ n. (λ e h. either (bytes_are n h) e, no_bytes n);
      bits_and_back = bits_back;
      bytes_and_back = bytes_back;
      frames_exact = λ n. (even n _, frames_are n);
      frames_none = λ n. (λ e h. either (frames_are n h) e, no_frames n);
      frames_in_bytes_exact = λ n. (few_frames n _, λ h. rw (mul_comm 2 n.0) (frames_in_bytes_are n h));
      frames_in_bytes_none = λ n. (many_frames n, no_frames_in_bytes n);
      frames_and_back = frames_back;
      bytes_of_frames_and_back = frames_bytes_back;
    }
