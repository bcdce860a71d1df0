use Rattle.crs_number.proofs.Once.{spells_once}
use Rattle.crs_number.proofs.laws.one_decimal.Goals as goal

pub returns : goal.returns
returns c = spells_once
