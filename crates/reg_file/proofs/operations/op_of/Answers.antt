use Rattle.std.proofs.Common.{refl, arith}
use Rattle.reg_file.proofs.FieldLemmas.{IsBytes}
use Rattle.reg_file.proofs.BodyLemmas.{heading_takes, op_stops_heading, op_stops_body, op_done, not_of_itself}
use Rattle.reg_file.proofs.operations.op_of.Goals as goal

pub returns-in-Err-clause-err : goal.returns-in-Err-clause-err
returns-in-Err-clause-err c = op_stops_heading c.args.version c.args.last c.args.seen.now c.args.bytes.now c.in-Err.stop c.in-Err.ensures

pub body_of-requires : goal.body_of-requires
body_of-requires c =
    let fits : IsBytes c.args.bytes.now = λ i. omega (arith, c.type_inv.bytes i) in
    let h = heading_takes c.args.version c.args.last c.args.seen.now c.args.bytes.now c.in-Ok.read.0.0.0 c.in-Ok.read.0.0.1 c.in-Ok.read.0.1 c.in-Ok.read.1.now fits c.in-Ok.ensures in
    (h.low, h.high)

pub returns-in-Err-body_of-clause-err : goal.returns-in-Err-body_of-clause-err
returns-in-Err-body_of-clause-err c =
    op_stops_body c.args.version c.args.last c.args.seen.now c.args.bytes.now c.in-Ok.read.0.0.0 c.in-Ok.read.0.0.1 c.in-Ok.read.0.1 c.in-Ok.read.1.now c.in-Ok.ensures c.in-Err-body_of.stop c.in-Err-body_of.ensures.err

pub unreachable-requires : goal.unreachable-requires
unreachable-requires c =
    let fits : IsBytes c.args.bytes.now = λ i. omega (arith, c.type_inv.bytes i) in
    let h = heading_takes c.args.version c.args.last c.args.seen.now c.args.bytes.now c.in-Ok.read.0.0.0 c.in-Ok.read.0.0.1 c.in-Ok.read.0.1 c.in-Ok.read.1.now fits c.in-Ok.ensures in
    not_of_itself c.in-Ok.read.0.0.1 c.in-Ok.read.1.now c.in-Ok-body_of.read.0 c.in-Ok-body_of.read.1.now h.low h.high h.takes.rest_fits c.in-Ok-body_of.ensures.ok (c.in-Err-new.ensures.same.0 refl)

pub returns-clause-ok : goal.returns-clause-ok
returns-clause-ok c =
    let fits : IsBytes c.args.bytes.now = λ i. omega (arith, c.type_inv.bytes i) in
    op_done c.args.version c.args.last c.args.seen.now c.args.bytes.now c.in-Ok.read.0.0.0 c.in-Ok.read.0.0.1 c.in-Ok.read.0.1 c.in-Ok.read.1.now c.in-Ok.ensures c.in-Ok-body_of.read.0 c.in-Ok-body_of.read.1.now c.in-Ok-new.op fits
    c.in-Ok-body_of.ensures.ok c.in-Ok-new.ensures.ok c.id-id.ensures.operation.body
