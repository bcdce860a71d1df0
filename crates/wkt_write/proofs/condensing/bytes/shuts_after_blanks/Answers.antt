use Rattle.wkt_write.proofs.Keeping.{shuts_past}
use Rattle.wkt_write.proofs.condensing.bytes.shuts_after_blanks.Goals as goal

pub returns : goal.returns
returns c = λ h. shuts_past c.args.bytes.now c.split_at.result.1.now c.blank_len.result c.blank_len.ensures.is c.split_at.ensures.back (c.shuts.ensures h)
