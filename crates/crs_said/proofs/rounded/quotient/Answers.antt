use Rattle.std.proofs.Common.{arith}
use Rattle.crs_number.specs.Laws.{power_pos}
use Rattle.crs_said.proofs.rounded.quotient.Goals as goal

pub nonzero_div-result : goal.nonzero_div-result
nonzero_div-result c = omega (arith, c.in-Some.ensures.1, power_pos c.args.power)
