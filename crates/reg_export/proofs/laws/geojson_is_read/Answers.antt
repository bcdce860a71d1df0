use Rattle.reg_export.proofs.ReadLemmas.{geojson_read}
use Rattle.reg_export.proofs.laws.geojson_is_read.Goals as goal

pub returns : goal.returns
returns c = geojson_read
