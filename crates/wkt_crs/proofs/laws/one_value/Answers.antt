use Rattle.wkt_crs.proofs.Texts
use Rattle.wkt_crs.proofs.laws.one_value.Goals as goal

pub returns : goal.returns
returns c = Texts.one_value
