use Rattle.std.proofs.Common.{◌∙◌, ap, nat_lt, arith}
use Rattle.crs_exact.proofs.SizeLemmas.{lt_right, lt_left, none_right, none_left}
use Rattle.crs_exact.proofs.sizes.is_less.Goals as goal

pub returns-in-Some : goal.returns-in-Some
returns-in-Some c = ap (λ n. nat_lt c.args.left n) c.in-Some.ensures.1 ∙ lt_right c.args.left c.args.right c.args.left_power c.args.right_power (omega arith)

pub returns-in-None : goal.returns-in-None
returns-in-None c = none_right c.args.left c.args.right c.args.left_power c.args.right_power (omega arith) c.requires.left c.in-None.ensures

pub returns-in-Some-scaled : goal.returns-in-Some-scaled
returns-in-Some-scaled c = ap (λ n. nat_lt n c.args.right) c.in-Some-scaled.ensures.1 ∙ lt_left c.args.left c.args.right c.args.right_power c.args.left_power (omega arith)

pub returns-in-None-scaled : goal.returns-in-None-scaled
returns-in-None-scaled c = none_left c.args.left c.args.right c.args.right_power c.args.left_power (omega arith) c.requires.right c.in-None-scaled.ensures
