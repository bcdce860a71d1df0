use Rattle.std.proofs.Common.{arith}
use Rattle.reg_file.proofs.FieldLemmas.{IsBytes, group_takes}
use Rattle.reg_file.proofs.RangeLemmas.{under_first, group_added}
use Rattle.reg_file.proofs.ranges.add_group.Goals as goal

pub add_spans-requires : goal.add_spans-requires
add_spans-requires c =
    let fits : IsBytes c.args.bytes.now = λ i. omega (arith, c.type_inv.bytes i) in
    under_first c.args.seen.now c.args.last c.in-Ok.read.0.0 c.requires (group_takes c.args.last c.args.bytes.now c.in-Ok.read.0.0 c.in-Ok.read.0.1 c.in-Ok.read.1.now fits c.in-Ok.ensures).1.above

pub returns-in-Ok-add_spans-clause-ok : goal.returns-in-Ok-add_spans-clause-ok
returns-in-Ok-add_spans-clause-ok c =
    group_added c.args.basis.now c.args.seen.now c.add_spans.new.seen c.args.last c.args.bytes.now c.in-Ok.read.0.0 c.in-Ok.read.0.1 c.in-Ok.read.1.now c.in-Ok-add_spans.after.now c.in-Ok.ensures c.in-Ok-add_spans.ensures.ok
