use Rattle.wkt_tree.proofs.Classes.{number_told}
use Rattle.wkt_tree.proofs.lexer.is_number_byte.Goals as goal

pub returns : goal.returns
returns c = number_told c.args.b c.ranges.b.fits
