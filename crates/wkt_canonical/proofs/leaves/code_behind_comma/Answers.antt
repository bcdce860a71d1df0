use Rattle.wkt_canonical.proofs.Codes as codes_of
use Rattle.wkt_canonical.proofs.leaves.code_behind_comma.Goals as goal

pub returns : goal.returns
returns c = codes_of.any_code c.in_ok-rest.ensures
