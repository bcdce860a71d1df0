use Rattle.std.proofs.Common.{refl, sym, ◌∙◌}
use Rattle.wkt_canonical.proofs.Wholes as wholes
use Rattle.wkt_canonical.proofs.crs.geodetic.Goals as goal

pub returns : goal.returns
returns c = wholes.geodetic _ _ _ _ refl c.in_ok-name.ensures c.in_ok-rest.ensures c.in_ok-rest-2.ensures c.in_ok-system.ensures (sym c.may_be_of.ensures ∙ c.if-not-may_be_of.false) c.in_ok-rest-3.ensures c.in_ok-identifier.ensures c.is_ellipsoidal_plane.ensures refl
