use Rattle.crs_export.proofs.JsonLemmas.{document_back}
use Rattle.crs_export.proofs.laws.json_texts_are_read.Goals as goal

pub returns : goal.returns
returns c = document_back
