use Rattle.crs_number.proofs.Few.{stripped}
use Rattle.crs_number.proofs.reduced.Reduced.of_small.Goals as goal

pub loop-coefficient-preserved : goal.loop-coefficient-preserved
loop-coefficient-preserved c =
    let i = c.loop-coefficient.invariant in
    let s = stripped c.loop-coefficient.coefficient c.loop-coefficient.zeros c.args.number i.some c.loop-coefficient-test.true i.number c.requires i.zeros in
    record { some = s.some; zeros = s.zeros; number = s.number }
