-- `message_length` makes the tests in the definition's order. Assumes nothing.
use Rattle.std.proofs.Common.{◌≡◌, ◌<◌, length, false, sym, ap, ◌∙◌, arith, rules}
use Rattle.std.specs.Bool.{then_some}
use Rattle.padded.specs.Removing.{is_padded}
use Rattle.padded.proofs.Removed.{no_bytes, broken_block, broken_byte, count_fits, wrong_count, byte_there, then_found}
use Rattle.padded.proofs.message_length.Goals as goal
use Rattle.padded.proofs.message_length.Goals.{then-is_empty-via-then-is_empty, then-is_empty-via-else-is_empty+then-bytes-ne0}

pub returns-then-is_empty : goal.returns-then-is_empty
returns-then-is_empty c =
    elim c.then-is_empty.branch [
      | then-is_empty-via-then-is_empty w ↦ let no : is_padded c.args.bytes.now ≡ false = no_bytes _ (search rules) in rw no
      | then-is_empty-via-else-is_empty+then-bytes-ne0 w ↦ let no : is_padded c.args.bytes.now ≡ false = broken_block _ (search rules) in rw no
    ]

pub returns-in_err-m : goal.returns-in_err-m
returns-in_err-m c =
    let some : 0 < length c.args.bytes.now = search rules in
    let no : is_padded c.args.bytes.now ≡ false = broken_byte _ some (search rules) c.stated_bits.result c.stated_bits.ensures (sym c.in_err-m.ensures) in
    rw (c.from_residual.ensures, no)

pub overflow_mul-block_count : goal.overflow_mul-block_count
overflow_mul-block_count c =
    let some : 0 < length c.args.bytes.now = search rules in
    record { fits = count_fits _ some (search rules) c.stated_bits.result c.stated_bits.ensures c.in_ok-m.m (sym c.in_ok-m.ensures) c.block_count.result c.block_count.ensures (omega arith) }

pub returns-then-block_count-bytes : goal.returns-then-block_count-bytes
returns-then-block_count-bytes c =
    let some : 0 < length c.args.bytes.now = search rules in
    let no : is_padded c.args.bytes.now ≡ false
    = wrong_count _ some (search rules) c.stated_bits.result c.stated_bits.ensures c.in_ok-m.m (sym c.in_ok-m.ensures) c.block_count.result c.block_count.ensures (search rules) in
    rw no

pub right_fill-requires : goal.right_fill-requires
right_fill-requires c =
    let some : 0 < length c.args.bytes.now = search rules in
    byte_there _ some (search rules) c.stated_bits.result c.stated_bits.ensures c.in_ok-m.m (sym c.in_ok-m.ensures) c.block_count.result c.block_count.ensures (search rules)

pub returns : goal.returns
returns c =
    let some : 0 < length c.args.bytes.now = search rules in
    c.then_some.ensures ∙ ap (λ t. then_some t c.in_ok-m.m.0) c.right_fill.ensures
    ∙ then_found _ some (search rules) c.stated_bits.result c.stated_bits.ensures c.in_ok-m.m (sym c.in_ok-m.ensures) c.block_count.result c.block_count.ensures (search rules)
