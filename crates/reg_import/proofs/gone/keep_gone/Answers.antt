use Rattle.std.proofs.Common.{map}
use Rattle.reg_report.specs.Seen.{row_seen}
use Rattle.reg_import.proofs.GoneLemmas.{gone_rows_more}
use Rattle.reg_import.proofs.gone.keep_gone.Goals as goal

pub loop-row-preserved : goal.loop-row-preserved
loop-row-preserved c = λ texts has.
    gone_rows_more c.args.authority.now texts c.loop-row.yielded c.in-Some.row c.in_ok-wanted.wanted (map row_seen c.loop-row.gone.items) (map row_seen c.push_where.new.rows.items)
    (c.in_ok-wanted.ensures texts has) c.in_ok-push_where.ensures (c.loop-row.invariant texts has)
