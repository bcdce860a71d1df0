use Rattle.std.proofs.Common.{map, ap, ◌∙◌}
use Rattle.std.proofs.lemmas.List.{take_all}
use Rattle.reg_op.specs.Set as set
use Rattle.reg_state.specs.declared.run.Run.{Run}
use Rattle.reg_state.specs.Runs.{replica_cmp}
use Rattle.reg_query.proofs.SeenLemmas.{replicas_are}
use Rattle.reg_query.proofs.figures.replicas.replicas_of.Goals as goal

pub returns : goal.returns
returns c =
    c.distinct.ensures
    ∙ ap (λ l. set.items (set.from_list {R = replica_cmp} l)) (c.loop-run.invariant ∙ ap (map (λ (r : Run). r.replica)) (take_all c.loop-run.run-index c.args.runs.now c.loop-run-test.false))
    ∙ ap set.items (replicas_are c.args.runs.now c.requires)
