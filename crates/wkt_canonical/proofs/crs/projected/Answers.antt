use Rattle.std.proofs.Common.{refl, sym, ◌∙◌}
use Rattle.wkt_canonical.proofs.Wholes as wholes
use Rattle.wkt_canonical.proofs.crs.projected.Goals as goal

pub returns : goal.returns
returns c = wholes.projected _ _ _ refl c.in_ok-name.ensures c.in_ok-rest.ensures c.in_ok-rest-2.ensures c.in_ok-system.ensures (sym c.may_be_projected.ensures ∙ c.if-not-may_be_projected.false) c.in_ok-rest-3.ensures c.in_ok-identifier.ensures c.is_cartesian_plane.ensures refl
