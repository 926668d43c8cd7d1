-- `with` puts a part behind a text where it fits. Assumes nothing.
use mathlib.Core.Path.{sym}
use borrow.Author.Rules.{rules}
use Rattle.texts.proofs.Parts.{part_not, part_copied}
use Rattle.texts.proofs.with.Goals as goal
use Rattle.texts.proofs.with.Goals.{else-part-le-MOST-via-then-part-le-MOST+else-at-part, else-part-le-MOST-via-else-part-le-MOST}

pub returns-then-at-part : goal.returns-then-at-part
returns-then-at-part c = part_copied _ _ _ c.copy.ensures (search rules)

pub returns-else-part-le-MOST : goal.returns-else-part-le-MOST
returns-else-part-le-MOST c =
    sym
    (part_not _ _
    (elim c.else-part-le-MOST.branch [
      | else-part-le-MOST-via-then-part-le-MOST+else-at-part w ↦ search rules
      | else-part-le-MOST-via-else-part-le-MOST w ↦ search rules
    ]))
