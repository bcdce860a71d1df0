use Rattle.std.proofs.Common.{map, ap, ◌∙◌}
use Rattle.reg_report.specs.Seen.{row_seen}
use Rattle.reg_lint.proofs.EnteredLemmas.{with_status}
use Rattle.reg_lint.proofs.live.keep_asked.Goals as goal

pub returns-in-Some : goal.returns-in-Some
returns-in-Some c = rw c.in-Some.is (ap (map row_seen) c.keep_status.ensures ∙ with_status c.in-Some.status c.args.rows.now.items)
