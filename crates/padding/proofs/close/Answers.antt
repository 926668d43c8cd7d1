-- `close` puts the byte, the zeros and the number one after the other. Assumes nothing.
use Rattle.std.proofs.Common.{◌≡◌, ◌+◌, ◌-◌, replicate, rules}
use lib.ListN.{length-replicate}
use Rattle.word.proofs.BigEndian.{length_bigEndian}
use Rattle.padding.proofs.Stores.{closed}
use Rattle.padding.proofs.close.Goals as goal

pub returns : goal.returns
returns c =
    let args = c.args in
    let zeros : c.fill.new.self ≡ replicate (args.to - (args.from + 1)) 0 = search rules in
    rw (zeros, c.copy_from_slice.ensures.after, c.eight_bytes_of.ensures)
    (closed args.dst.now _ _ args.from args.to 0x80 _ (search rules) (length-replicate (args.to - (args.from + 1)) 0) (length_bigEndian 8 args.number) (search rules) (search rules))
