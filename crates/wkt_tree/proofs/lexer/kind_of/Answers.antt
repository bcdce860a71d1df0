use Rattle.wkt_tree.proofs.Classes.{beginning_told}
use Rattle.wkt_tree.proofs.lexer.kind_of.Goals as goal

pub returns : goal.returns
returns c = beginning_told c.args.b c.ranges.b.fits
