-- `holds_tail` holds the tail against the message's last bytes, the fill and the stated length. Assumes nothing.
use Rattle.std.proofs.Common.{sym, ◌∙◌, arith, length, ap, Some}
use lib.Dec.{eqb}
use lib.Seq.{length-take-le}
use Rattle.std.specs.Option.{option_eq}
use Rattle.padding.proofs.Tails.{fills}
use Rattle.padded.proofs.Parts.{are_bytes}
use Rattle.padded.proofs.Viewed.{other_front, other_fill, right_tail}
use Rattle.padded.proofs.holds_tail.Goals as goal
use Rattle.padded.proofs.holds_tail.Goals.{then-same, else-same}

pub slice_bounds-same-end : goal.slice_bounds-same-end
slice_bounds-same-end c = sym (length-take-le _ _ (omega (arith, fills (length c.args.message.now), c.requires.1)))

pub right_fill-requires : goal.right_fill-requires
right_fill-requires c = omega (arith, fills (length c.args.message.now), c.requires.1)

pub stated_bits-requires : goal.stated_bits-requires
stated_bits-requires c = omega (arith, fills (length c.args.message.now), c.requires.1)

pub returns-then-right_fill : goal.returns-then-right_fill
returns-then-right_fill c =
    elim c.if-same.branch [
      | then-same w ↦
          c.eq.ensures ∙ ap (option_eq (λ x y. eqb x.0 y.0) (Some c.stated_bits.result)) c.bits.ensures
          ∙ right_tail _ _ (are_bytes _ c.type_inv.tail) c.requires.0 c.requires.1 (sym w.if-same.ensures) (sym w.right_fill.ensures ∙ cc) c.stated_bits.result c.stated_bits.ensures
      | else-same w ↦ cc
    ]

pub returns-else-right_fill : goal.returns-else-right_fill
returns-else-right_fill c =
    elim c.if-same.branch [
      | then-same w ↦
          c.if-right_fill.false
          ∙ other_fill _ _ (are_bytes _ c.type_inv.tail) c.requires.0 c.requires.1 (sym w.if-same.ensures) (sym w.right_fill.ensures ∙ cc)
      | else-same w ↦ c.if-right_fill.false ∙ other_front _ _ (are_bytes _ c.type_inv.tail) c.requires.0 c.requires.1 (sym w.if-same.ensures)
    ]
