use Rattle.std.proofs.Common.{◌≡◌, map, take}
use Rattle.reg_state.specs.declared.run.Run.{Run}
use Rattle.reg_query.proofs.figures.replicas.replicas_of.Given as goal

abbrev pub invariant-loop-run : goal.invariant-loop-run
invariant-loop-run l = l.made.items ≡ map (λ (r : Run). r.replica) (take l.run-index l.runs)
