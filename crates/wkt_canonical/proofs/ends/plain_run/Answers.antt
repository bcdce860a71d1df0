use Rattle.wkt_tree.proofs.PlainRuns.{no_mark_set, mark_set}
use Rattle.wkt_canonical.proofs.ends.plain_run.Goals as goal

pub returns-then-marks-eq0 : goal.returns-then-marks-eq0
returns-then-marks-eq0 c = no_mark_set c.args.bytes.now c.args.at c.requires c.if-marks-eq0.true

pub returns-else-marks-eq0 : goal.returns-else-marks-eq0
returns-else-marks-eq0 c = mark_set c.args.bytes.now c.args.at c.requires c.if-marks-eq0.false
