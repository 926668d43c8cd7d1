-- The contract of `loader::shown`, as the kit generates it, is just what is promised of the text that is written out, whatever runtime the
-- files are opened by. Assumes nothing.
use mathlib.Core.Logic.Iff
use mathlib.Core.Logic.{◌↔◌}
use contract.Lifetimes.{Lfts}
use denote.Param.Laws.{Laws}
use denote.RattleType.{RattleType}
use denote.Triple.Clauses.{AtExit, Ended}
use denote.Triple.Entry.{Args, Res}
use mir.Syntax.{Dict}
use Rattle.std.specs.declared.fs.files.Files as Files
use Rattle.std.specs.declared.fs.files.OpenFile as OpenFile
use Rattle.std.specs.declared.io.traits.Read as Read
use Rattle.std.specs.declared.io.traits.Seek as Seek
use Rattle.std.specs.declared.io.traits.Write as Write
use Rattle.loader.specs.Loading.{Shown}
use Rattle.loader.specs.contracts.shown as shown'
use Rattle.loader.proofs.shown.Reads as reads

-- a runtime, its files and its folders, with what their traits say of them
module _ (R F D : RattleType) (r : Laws R) (f : Laws F) (d : Laws D)
    (files : Files.Ghosts R.Denot F.Denot D.Denot) (files' : Dict)
    (read : Read.Ghosts F.Denot) (read' : Dict)
    (write : Write.Ghosts F.Denot) (write' : Dict)
    (seek : Seek.Ghosts F.Denot) (seek' : Dict)
    (open_file : OpenFile.Ghosts F.Denot) (open_file' : Dict)
    (names : Read.Ghosts D.Denot) (names' : Dict) (drop' : Dict) (drop_names' : Dict) where
  abbrev the_contract : Ended
  the_contract = shown'.ended R F D files files' read read' write write' seek seek' open_file open_file' names names' drop' drop_names'

  pub shown_means :
      (κs : Lfts (shown'.signature R F D).lifetimes) (a : Args (shown'.signature R F D) κs)
      (text : Res (shown'.signature R F D) κs) (e : AtExit the_contract κs)
      → reads.Post R F D r f d files files' read read' write write' seek seek' open_file open_file' names names' drop' drop_names' κs a text e
      ↔ Shown text
  shown_means κs a text e = Iff.rfl
