use Rattle.wkt_crs.proofs.Verdicts
use Rattle.wkt_crs.proofs.laws.one_first_fault.Goals as goal

pub returns : goal.returns
returns c = Verdicts.one_first_fault
