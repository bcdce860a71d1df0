use Rattle.wkt_crs.proofs.Written.{canonical_spells, indented_spells}
use Rattle.wkt_crs.proofs.laws.written_is_read.Goals as goal

pub returns-clause-canonical : goal.returns-clause-canonical
returns-clause-canonical c = canonical_spells

pub returns-clause-indented : goal.returns-clause-indented
returns-clause-indented c = indented_spells
