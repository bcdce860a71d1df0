use Rattle.crs_export.proofs.DotLemmas.{read_back}
use Rattle.crs_export.proofs.laws.dot_texts_are_read.Goals as goal

pub returns : goal.returns
returns c = read_back
