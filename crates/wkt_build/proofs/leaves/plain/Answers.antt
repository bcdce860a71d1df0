use Rattle.std.proofs.Common.{sym}
use Rattle.wkt_build.proofs.Plain.{plain_is}
use Rattle.wkt_build.proofs.leaves.plain.Goals as goal

pub returns : goal.returns
returns c = plain_is c.args.bytes.now c.in_ok-mark.mark (sym c.in_ok-mark.ensures.first) c.if-mark-bytes.false
