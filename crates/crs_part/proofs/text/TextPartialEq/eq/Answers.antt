use Rattle.crs_part.specs.Equality.{equal_is}
use Rattle.crs_part.proofs.text.TextPartialEq.eq.Goals as goal

pub returns-clause-value : goal.returns-clause-value
returns-clause-value c = equal_is _ _ _ _ c.same.ensures.yes c.same.ensures.no
