use Rattle.wkt_write.proofs.Classes.{class_told}
use Rattle.wkt_write.proofs.condensing.bytes.class_of.Goals as goal

pub returns : goal.returns
returns c = class_told c.args.b c.ranges.b.fits
