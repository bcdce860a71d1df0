use Rattle.std.proofs.Common.{◌≡◌, map, length}
use Rattle.std.specs.List.{list_any}
use Rattle.byte_folder.specs.Folder.{seen, is_long}
use Rattle.byte_folder.proofs.putting.has_long_name.Given as goal

abbrev pub invariant-loop-file : goal.invariant-loop-file
invariant-loop-file l = list_any is_long (map seen l.rest) ≡ list_any is_long (map seen l.files)

abbrev pub decreases-loop-file : goal.decreases-loop-file
decreases-loop-file l = length l.rest
