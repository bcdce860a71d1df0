use Rattle.crs_number.proofs.Forms.{form_bytes}
use Rattle.crs_number.proofs.laws.numeral_bytes.Goals as goal

pub returns : goal.returns
returns c = form_bytes
