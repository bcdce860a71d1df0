use Rattle.std.proofs.Common.{◌≡◌, drop}
use Rattle.crs_exact.specs.Names.{begins}
use Rattle.crs_exact.proofs.names.begins.Given as goal

abbrev pub invariant-loop-wanted : goal.invariant-loop-wanted
invariant-loop-wanted l = begins l.part l.name ≡ begins (drop l.wanted-index l.part) l.rest
