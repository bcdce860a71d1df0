use Rattle.std.proofs.Common.{arith}
use Rattle.std.proofs.lemmas.Bool.{false≢true}
use Rattle.reg_file.proofs.FieldLemmas.{IsBytes, cut_takes}
use Rattle.reg_file.proofs.fields.uuid_of.Goals as goal

pub unreachable-requires : goal.unreachable-requires
unreachable-requires c =
    let fits : IsBytes c.args.bytes.now = λ i. omega (arith, c.type_inv.bytes i) in
    false≢true (c.in_default.ensures.ok.1 (cut_takes 16 c.args.bytes.now c.in_ok-front.front.now c.in_ok-front.rest.now fits c.in_ok-front.ensures).long)
