use Rattle.std.proofs.Common.{◌≡◌, ◌++◌, take}
use Rattle.std.specs.List.{flat_map}
use Rattle.crs_said.specs.Fields.{after_plus}
use Rattle.crs_said.proofs.says.say_all.Given as goal

abbrev pub invariant-loop-part : goal.invariant-loop-part
invariant-loop-part g l = l.out.items ≡ l.fn.out.items ++ flat_map (after_plus (g.T.Says.said l.exact)) (take l.part-index l.parts)
