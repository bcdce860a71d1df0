use Rattle.std.proofs.Common.{drop}
use Rattle.cli_open.proofs.Telling.{Leads}
use Rattle.cli_open.proofs.ending.reporting.tell_each.Given as goal

abbrev pub invariant-loop-one : goal.invariant-loop-one
invariant-loop-one g l = Leads g.T.Teller.tells_left (drop l.one-index l.left) l.left l.teller l.initial.teller
