use Rattle.std.proofs.Common.{refl, sym, ◌∙◌}
use Rattle.wkt_canonical.proofs.Wholes as wholes
use Rattle.wkt_canonical.proofs.crs.vertical.Goals as goal

pub returns : goal.returns
returns c = wholes.vertical _ _ _ refl c.in_ok-name.ensures c.in_ok-rest.ensures c.in_ok-system.ensures (sym c.may_be_vertical.ensures ∙ c.if-not-may_be_vertical.false) c.in_ok-rest-2.ensures c.in_ok-rest-3.ensures c.in_ok-identifier.ensures refl refl
