use Rattle.wkt_crs.proofs.EachText.{good_denotes}
use Rattle.wkt_crs.proofs.laws.fitting_denotes.Goals as goal

pub returns : goal.returns
returns c = good_denotes
