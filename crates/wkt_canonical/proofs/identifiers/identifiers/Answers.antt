use Rattle.wkt_canonical.proofs.Codes as codes_of
use Rattle.wkt_canonical.proofs.identifiers.identifiers.Goals as goal

pub returns-in_default : goal.returns-in_default
returns-in_default c = codes_of.no_identifiers _

pub returns : goal.returns
returns c = codes_of.some_identifiers _ c.in-Some.ensures c.in_ok-first.ensures c.in_ok-rest.ensures
