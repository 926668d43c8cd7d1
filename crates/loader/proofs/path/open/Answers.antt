-- `open` opens a path that ends within its text. Assumes nothing.
use mathlib.Core.Path.{sym}
use lib.Seq.{length-take-le}
use Rattle.paths.proofs.Proved.{path_within}
use Rattle.loader.proofs.path.open.Goals as goal

pub slice_bounds-bytes-end : goal.slice_bounds-bytes-end
slice_bounds-bytes-end g c = let made = c.path_of-length in path_within made.result _ _ made.ensures

pub slice_bounds-from_utf8-end : goal.slice_bounds-from_utf8-end
slice_bounds-from_utf8-end g c =
    let made = c.path_of-length in sym (length-take-le _ _ (path_within made.result _ _ made.ensures))
