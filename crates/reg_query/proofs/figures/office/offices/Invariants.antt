use Rattle.std.proofs.Common.{◌≡◌, All, map, take}
use Rattle.reg_query.specs.declared.figures.office.OfficeFigures.{OfficeFigures}
use Rattle.reg_query.specs.Offices.{IsOffice}
use Rattle.reg_query.proofs.figures.office.offices.Given as goal

abbrev pub invariant-loop-replica : goal.invariant-loop-replica
invariant-loop-replica l = (map (λ (o : OfficeFigures). o.replica) l.made.items ≡ take l.replica-index l.replica-items) × All (IsOffice l.register) l.made.items
