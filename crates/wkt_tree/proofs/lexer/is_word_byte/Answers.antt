use Rattle.wkt_tree.proofs.Classes.{word_told}
use Rattle.wkt_tree.proofs.lexer.is_word_byte.Goals as goal

pub returns : goal.returns
returns c = word_told c.args.b c.ranges.b.fits
