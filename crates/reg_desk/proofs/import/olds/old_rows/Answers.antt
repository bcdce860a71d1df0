use Rattle.std.proofs.Common.{map}
use Rattle.std.specs.Borrow.{Bor}
use Rattle.reg_report.specs.declared.row.Row.{Row}
use Rattle.reg_report.specs.Seen.{row_seen}
use Rattle.reg_desk.proofs.OldRows.{more_rows, all_rows}
use Rattle.reg_desk.proofs.import.olds.old_rows.Goals as goal

pub loop-link-preserved : goal.loop-link-preserved
loop-link-preserved c =
    more_rows (map row_seen c.args.rows.now) c.args.links.now c.loop-link.rest.now c.in-Some.others.now c.in-Some.link.now c.loop-link.made.items c.in_ok-row.row c.push.new.self.items
    c.in-Some.ensures.cases.0 c.in_ok-row.ensures c.in_ok-push.ensures.items c.loop-link.invariant

pub returns : goal.returns
returns c = all_rows (map row_seen c.args.rows.now) c.args.links.now c.loop-link.rest.now (map (λ (r : Bor Row). row_seen r.now) c.loop-link.made.items) c.in_default.ensures.cases c.loop-link.invariant
