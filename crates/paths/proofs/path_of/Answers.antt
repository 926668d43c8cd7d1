-- `path_of` is a file's name behind its folder's. Assumes nothing.
use mathlib.Core.Path.{sym, ◌∙◌}
use mathlib.Core.List.{[]}
use borrow.Author.Rules.{rules}
use Rattle.texts.proofs.Parts.{next, of_none}
use Rattle.paths.proofs.Proved.{empty_path, both_path}
use Rattle.paths.proofs.path_of.Goals as goal
use Rattle.paths.proofs.path_of.Goals.{else-folder-le-MOST-via-then-folder-le-MOST+else-name-folder, else-folder-le-MOST-via-else-folder-le-MOST}

pub returns-then-name-folder : goal.returns-then-name-folder
returns-then-name-folder c =
    let empty = c.empty-path in
    let args = c.args in
    let first = next [] args.folder.now (empty.ensures ∙ sym of_none) c.with.ensures (search rules) in
    next args.folder.now args.name.now first c.with-then-name-folder.ensures (search rules)
    ∙ sym (both_path args.folder.now args.name.now (search rules))

pub returns-else-folder-le-MOST : goal.returns-else-folder-le-MOST
returns-else-folder-le-MOST c =
    c.empty-path.ensures
    ∙ sym
    (empty_path c.args.folder.now c.args.name.now
    (elim c.else-folder-le-MOST.branch [
      | else-folder-le-MOST-via-then-folder-le-MOST+else-name-folder w ↦ search rules
      | else-folder-le-MOST-via-else-folder-le-MOST w ↦ search rules
    ]))
