use Rattle.std.proofs.Common.{◌<◌, ◌≡◌, rules, arith, sym, ap, ◌∙◌}
use Rattle.std.specs.Ordering.{is_eq}
use Rattle.std.proofs.lemmas.List.Sorted.{IsPartitionPoint-from_clause}
use Rattle.reg_op.proofs.PointLemmas.{parted}
use Rattle.reg_state.specs.Runs.{is_replica_by, replica_cmp}
use Rattle.reg_state.proofs.SearchLemmas.{IsUpTo, runs_far, by_low, last_none, last_at, last_else}
use Rattle.reg_state.proofs.seen.last_count.Goals as goal

pub returns-then-end-eq0 : goal.returns-then-end-eq0
returns-then-end-eq0 c =
    let q = c.args.replica.now in
    let rs = c.args.runs.now in
    let point = IsPartitionPoint-from_clause (λ r. is_replica_by r.replica q) _ _ c.partition_point-end.ensures.partitioned
    (parted _ (λ r. is_replica_by r.replica q) IsUpTo rs (runs_far rs c.requires) (by_low q)) (λ a r w k. search rules) in
    last_none rs q c.partition_point-end.result point c.if-end-eq0.true

pub returns-then-is_eq : goal.returns-then-is_eq
returns-then-is_eq c =
    let q = c.args.replica.now in
    let rs = c.args.runs.now in
    let point = IsPartitionPoint-from_clause (λ r. is_replica_by r.replica q) _ _ c.partition_point-end.ensures.partitioned
    (parted _ (λ r. is_replica_by r.replica q) IsUpTo rs (runs_far rs c.requires) (by_low q)) (λ a r w k. search rules) in
    let some : 0 < c.partition_point-end.result = omega arith in
    let last = c.index-runs-end.result in
    let told : is_eq (replica_cmp last.replica q) ≡ c.is_eq.result = ap is_eq (sym c.cmp.ensures) ∙ sym c.is_eq.ensures in
    last_at rs c.requires q c.partition_point-end.result point some c.partition_point-end.ensures.bound last (sym c.index-runs-end.is) (told ∙ c.if-is_eq.true)

pub returns : goal.returns
returns c =
    let q = c.args.replica.now in
    let rs = c.args.runs.now in
    let point = IsPartitionPoint-from_clause (λ r. is_replica_by r.replica q) _ _ c.partition_point-end.ensures.partitioned
    (parted _ (λ r. is_replica_by r.replica q) IsUpTo rs (runs_far rs c.requires) (by_low q)) (λ a r w k. search rules) in
    let some : 0 < c.partition_point-end.result = omega arith in
    let last = c.index-runs-end.result in
    let told : is_eq (replica_cmp last.replica q) ≡ c.is_eq.result = ap is_eq (sym c.cmp.ensures) ∙ sym c.is_eq.ensures in
    last_else rs c.requires q c.partition_point-end.result point some c.partition_point-end.ensures.bound last (sym c.index-runs-end.is) (told ∙ c.if-is_eq.false)
