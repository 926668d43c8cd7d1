-- `taken` takes a piece in one of three ways, each with its law in proofs/Taking.antt. Assumes nothing.
use mathlib.Core.Path.{refl, sym, ap, ap₂, ◌∙◌}
use mathlib.Core.List.{List}
use Prim.Native.Nat.{ℕ, ◌-◌, ◌%◌}
use Rattle.standard.specs.Standard.{folded, rest}
use Rattle.hash.specs.State.{as_tail}
use lib.Seq.{length-take-le}
use Rattle.hash.proofs.State.{parts, to_end}
use Rattle.hash.proofs.Taking.{afterPiece_whole, afterPiece_short, afterPiece_long}
use Rattle.hash.proofs.Hash.after_piece.Goals as goal

pub returns-then-kept-eq0 : goal.returns-then-kept-eq0
returns-then-kept-eq0 c =
    let start = c in
    c.after_blocks.ensures ∙ sym (afterPiece_whole start.args.self start.requires.0 start.args.piece.now c.if-kept-eq0.true)

pub returns-then-piece-room : goal.returns-then-piece-room
returns-then-piece-room c =
    let start = c in
    parts refl refl c.copy.ensures ∙ sym (afterPiece_short start.args.self start.requires.0 start.args.piece.now c.if-piece-room.true)

pub slice_bounds-copy-end-3 : goal.slice_bounds-copy-end-3
slice_bounds-copy-end-3 c = sym (length-take-le _ _ c.if-piece-room.false)

pub returns : goal.returns
returns c =
    let start = c in
    let after = to_end (64 - start.args.self.total % 64) start.args.piece.now in
    c.after_blocks-2.ensures
    ∙ parts
    (ap₂ folded (c.fold-full.ensures ∙ ap (folded start.args.self.words) c.copy-2.ensures) after)
    refl
    (ap (λ (s : List ℕ). as_tail (rest s)) after)
    ∙ sym (afterPiece_long start.args.self start.requires.0 start.args.piece.now c.if-piece-room.false)
