use Rattle.crs_number.proofs.Spelled.{canonical_spells}
use Rattle.crs_number.proofs.laws.canonical_text.Goals as goal

pub returns : goal.returns
returns c = canonical_spells
