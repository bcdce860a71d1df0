use Rattle.wkt_canonical.proofs.Ascii.{all_low}
use Rattle.wkt_canonical.proofs.ends.is_low.Goals as goal

pub returns : goal.returns
returns c = all_low c.args.bytes.now c.args.at c.requires
