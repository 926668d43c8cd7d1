-- `digest_at` reads 64 digits. The invariant: the digest is what is read from the place reached after the bytes that are had.
-- Assumes nothing.
use Prim.Native.Nat.{◌-◌}
use mathlib.Core.Path.{◌≡◌}
use lib.ListN.{length, take}
use Rattle.lines.specs.Fields.{digest_at, digest_from}
use Rattle.lines.proofs.digest_at.Given as goal

abbrev pub invariant-loop-byte : goal.invariant-loop-byte
invariant-loop-byte l =
    (length l.byte-items ≡ 32) × (digest_at l.text l.at ≡ digest_from (32 - l.byte-index) l.text l.next (take l.byte-index l.byte-items))
