use Rattle.wkt_canonical.proofs.Axes as axes
use Rattle.wkt_canonical.proofs.systems.MeridianCanonicalNode.inside.Goals as goal

pub returns : goal.returns
returns c = axes.meridian c.in_ok-rest.ensures c.in_ok-rest-2.ensures c.in_ok-rest-3.ensures
