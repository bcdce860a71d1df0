use Rattle.crs_part.specs.Equality.{equal_is}
use Rattle.crs_value.proofs.key.KeyPartialEq.eq.Goals as goal

pub returns-clause-value : goal.returns-clause-value
returns-clause-value c = equal_is _ _ _ _ c.same.ensures.yes c.same.ensures.no
