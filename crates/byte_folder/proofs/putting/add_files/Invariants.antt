use Rattle.std.proofs.Common.{map, length}
use Rattle.byte_folder.specs.Folder.{seen}
use Rattle.byte_folder.proofs.PutLemmas.{Added}
use Rattle.byte_folder.proofs.putting.add_files.Given as goal

abbrev pub invariant-loop-file : goal.invariant-loop-file
invariant-loop-file g l =
    Added (map seen l.files) (map seen l.rest) l.written (g.P.FolderPlace.state l.initial.place) (g.P.FolderPlace.state l.place)

abbrev pub decreases-loop-file : goal.decreases-loop-file
decreases-loop-file g l = length l.rest
