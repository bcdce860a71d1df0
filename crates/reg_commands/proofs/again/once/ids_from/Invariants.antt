use Rattle.std.proofs.Common.{◌≡◌}
use Rattle.reg_state.specs.Runs.{ids_from}
use Rattle.reg_commands.proofs.again.once.ids_from.Given as goal

abbrev pub invariant-loop-i : goal.invariant-loop-i
invariant-loop-i l = l.ids.items ≡ ids_from l.fn.replica l.fn.first l.i
