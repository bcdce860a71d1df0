use Rattle.std.proofs.Common.{arith}
use Rattle.std.proofs.lemmas.List.Sums.{prefix_len-le-length}
use Rattle.std.specs.Ordering.{is_eq}
use Rattle.reg_state.specs.Runs.{replica_cmp}
use Rattle.reg_file.proofs.spelling.put_heading.Goals as goal

pub overflow_cast-count : goal.overflow_cast-count
overflow_cast-count c =
    let e = prefix_len-le-length (λ r. is_eq (replica_cmp c.args.replica.now r.replica)) c.args.runs.now in
    omega (arith, e, c.leading-count.ensures, c.requires)
