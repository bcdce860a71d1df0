use Rattle.std.proofs.Common.{List, map}
use Rattle.reg_op.specs.Rows.{Row}
use Rattle.reg_report.specs.Seen.{row_seen}
use Rattle.reg_query.specs.Found.{AreFound}
use Rattle.reg_query.specs.Queries.{IsResolved}
use Rattle.reg_query.proofs.find.search.keep_found.Given as goal

abbrev pub invariant-loop-row : goal.invariant-loop-row
invariant-loop-row l = (rs : List Row) → IsResolved rs l.query l.by_key → AreFound rs l.query (map row_seen l.yielded) (map row_seen l.found.items)
