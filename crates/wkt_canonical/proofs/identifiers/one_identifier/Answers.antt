use Rattle.std.proofs.Common.{refl}
use Rattle.wkt_canonical.proofs.Codes as codes_of
use Rattle.wkt_canonical.proofs.Runs.{none_came}
use Rattle.wkt_canonical.proofs.identifiers.one_identifier.Goals as goal

pub returns-in-Some : goal.returns-in-Some
returns-in-Some c = codes_of.ident _ refl refl c.in_ok-authority.ensures c.in_ok-code.ensures (none_came _ _ _) (none_came _ _ _) (none_came _ _ _) c.in-Some.ensures

pub returns : goal.returns
returns c = codes_of.ident _ refl refl c.in_ok-authority.ensures c.in_ok-code.ensures c.version-rest.ensures c.in_ok-rest.ensures c.in_ok-rest-2.ensures c.in_ok-rest-3.ensures
