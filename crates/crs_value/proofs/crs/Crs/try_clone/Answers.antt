use Rattle.crs_value.proofs.Wholes.{same_crs}
use Rattle.crs_value.proofs.crs.Crs.try_clone.Goals as goal

pub returns : goal.returns
returns c = same_crs _ _ c.in_ok-try_clone.ensures
