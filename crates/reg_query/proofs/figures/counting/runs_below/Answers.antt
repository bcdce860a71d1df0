use Rattle.std.proofs.Common.{rules}
use Rattle.std.proofs.lemmas.List.Sorted.{IsPartitionPoint-from_clause}
use Rattle.reg_state.specs.declared.run.Run.{Run}
use Rattle.reg_query.specs.Offices.{is_below}
use Rattle.reg_query.proofs.SeenLemmas.{runs_parted}
use Rattle.reg_query.proofs.figures.counting.runs_below.Goals as goal

pub returns-clause-point : goal.returns-clause-point
returns-clause-point c =
    let q = c.args.replica in
    IsPartitionPoint-from_clause (λ (r : Run). is_below r.replica q) _ _ c.partition_point.ensures.partitioned (runs_parted q c.args.runs.now c.requires) (λ a r w k. search rules)
