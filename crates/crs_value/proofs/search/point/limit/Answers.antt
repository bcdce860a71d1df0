use Rattle.crs_value.proofs.PointLemmas.{limit_is}
use Rattle.crs_value.proofs.search.point.limit.Goals as goal

pub returns : goal.returns
returns c = limit_is c.args.negative c.args.tens c.from_digits.result c.requires.few c.requires.last_digit c.from_digits.ensures.only
