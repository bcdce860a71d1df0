use Rattle.crs_export.proofs.DocumentLemmas.{collection_read}
use Rattle.crs_export.proofs.laws.collections_are_read.Goals as goal

pub returns : goal.returns
returns c = collection_read
