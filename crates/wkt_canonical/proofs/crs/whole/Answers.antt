use Rattle.wkt_canonical.proofs.Wholes as wholes
use Rattle.wkt_canonical.proofs.crs.whole.Goals as goal

pub returns-in-Some : goal.returns-in-Some
returns-in-Some c = wholes.whole_of_compound c.in-Some.ensures c.in_ok-seen.ensures

pub returns : goal.returns
returns c = wholes.whole_of_single c.in_ok-component.ensures
