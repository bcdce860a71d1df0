use Rattle.wkt_crs.proofs.EachText.{clean_verdict}
use Rattle.wkt_crs.proofs.laws.clean_text.Goals as goal

pub returns : goal.returns
returns c = clean_verdict
