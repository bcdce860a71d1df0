use Rattle.wkt_canonical.proofs.Codes as codes_of
use Rattle.wkt_canonical.proofs.leaves.code.Goals as goal

pub returns-then-eq : goal.returns-then-eq
returns-then-eq c = codes_of.code_of_text c.in_ok-inside.ensures c.in_ok-content.ensures

pub returns : goal.returns
returns c = codes_of.code_of_number c.in_ok-inside.ensures c.in_ok-rest.ensures c.split_at.ensures.front
