use Rattle.wkt_crs.proofs.Verdicts
use Rattle.wkt_crs.proofs.laws.value_or_fault.Goals as goal

pub returns : goal.returns
returns c = Verdicts.value_or_fault
