use Rattle.wkt_canonical.proofs.Runs.{behind_comma}
use Rattle.wkt_canonical.proofs.numerals.unsigned_number_behind_comma.Goals as goal

pub returns : goal.returns
returns c = behind_comma _ _ c.in-Some.ensures c.in-Some-unsigned_number.ensures
