-- `load_all` loads the notes in turn. Assumes nothing.
use borrow.Author.Rules.{rules}
use lib.ListN.{length-set}
use Rattle.session.proofs.Lists.{length_of_image}
use Rattle.loader.specs.Loading.{none}
use Rattle.loader.proofs.Feeding.{note_there, note_more}
use Rattle.loader.proofs.load_all.Goals as goal

pub loop-note-init : goal.loop-note-init
loop-note-init g c = record { slots = search (rules, length_of_image, c.well_formed); loaded = none }

pub loop-note-preserved : goal.loop-note-preserved
loop-note-preserved g c =
    let loop = c.loop-note in record {
      slots = simp length-set loop.invariant.slots;
      loaded = note_more _ loop.session _ loop.note (search rules) loop.invariant.loaded
          (note_there loop.session loop.invariant.slots _ _ _ _ c.slot_index-index.ensures _ c.open_after.ensures c.load-after.ensures);
    }
