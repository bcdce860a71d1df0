use Rattle.std.proofs.Common.{◌≡◌, ◌+◌, map, length}
use Rattle.byte_folder.specs.Folder.{seen, contents}
use Rattle.byte_folder.proofs.putting.size_of.Given as goal

abbrev pub invariant-loop-file : goal.invariant-loop-file
invariant-loop-file l = l.size + length (contents (map seen l.rest)) ≡ length (contents (map seen l.files))

abbrev pub decreases-loop-file : goal.decreases-loop-file
decreases-loop-file l = length l.rest
