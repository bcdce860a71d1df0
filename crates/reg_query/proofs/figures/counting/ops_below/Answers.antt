use Rattle.std.proofs.Common.{rules}
use Rattle.std.proofs.lemmas.List.Sorted.{IsPartitionPoint-from_clause}
use Rattle.reg_op.specs.Operations.{Op}
use Rattle.reg_query.specs.Offices.{is_below}
use Rattle.reg_query.proofs.OpsLemmas.{ops_parted}
use Rattle.reg_query.proofs.figures.counting.ops_below.Goals as goal

pub returns-clause-point : goal.returns-clause-point
returns-clause-point c =
    let q = c.args.replica in
    IsPartitionPoint-from_clause (λ (o : Op). is_below o.id.replica q) _ _ c.partition_point.ensures.partitioned (ops_parted q c.args.ops.now c.requires) (λ a r w k. search rules)
