use Rattle.wkt_grammar.proofs.Editions.{fits_second}
use Rattle.wkt_grammar.proofs.laws.still_fits.Goals as goal

pub returns : goal.returns
returns c = fits_second
