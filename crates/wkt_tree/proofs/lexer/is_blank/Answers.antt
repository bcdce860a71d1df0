use Rattle.wkt_tree.proofs.Classes.{blank_told}
use Rattle.wkt_tree.proofs.lexer.is_blank.Goals as goal

pub returns : goal.returns
returns c = blank_told c.args.b c.ranges.b.fits
