use Rattle.std.proofs.Common.{map}
use Rattle.reg_report.specs.Seen.{row_seen}
use Rattle.reg_query.proofs.FoundLemmas.{more_rows}
use Rattle.reg_query.proofs.find.search.keep_found.Goals as goal

pub loop-row-preserved : goal.loop-row-preserved
loop-row-preserved c = λ rs tells. more_rows rs c.args.query.now c.loop-row.yielded c.in-Some.row c.in_ok-met.met (map row_seen c.loop-row.found.items) (map row_seen c.push_where.new.rows.items)
    (c.in_ok-met.ensures rs tells) c.in_ok-push_where.ensures (c.loop-row.invariant rs tells)
