use Rattle.std.proofs.Common.{map}
use Rattle.reg_report.specs.Seen.{row_seen}
use Rattle.reg_disorder.specs.Lists.{listed_seen}
use Rattle.reg_disorder.proofs.AmissLemmas.{amiss_are}
use Rattle.reg_disorder.proofs.listing.amiss.Goals as goal

pub returns : goal.returns
returns c = amiss_are c.args.way (map row_seen c.args.rows.now) (map listed_seen c.in_ok-listed.listed.items) (map listed_seen c.in_order.result.items) c.in_ok-listed.ensures c.in_order.ensures
