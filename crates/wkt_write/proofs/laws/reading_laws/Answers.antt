use Rattle.wkt_write.proofs.Reading.{rendered, indented_reads}
use Rattle.wkt_write.proofs.laws.reading_laws.Goals as goal

pub returns-clause-canonical : goal.returns-clause-canonical
returns-clause-canonical c = rendered

pub returns-clause-indented : goal.returns-clause-indented
returns-clause-indented c = indented_reads
