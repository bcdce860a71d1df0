use Rattle.std.proofs.Common.{◌*◌, arith, ap, sym, ◌∙◌}
use Rattle.crs_number.proofs.Powers.{scaled_past, ten_more}
use Rattle.crs_exact.proofs.sizes.scaled.Goals as goal

pub returns-then-scaled : goal.returns-then-scaled
returns-then-scaled c = λ small. scaled_past c.args.number c.loop.counter c.args.power (omega arith) (omega arith) small

pub loop-preserved : goal.loop-preserved
loop-preserved c = (ap (λ n. n * 10) c.loop.invariant.0 ∙ sym (ten_more c.args.number c.loop.counter), omega arith)
