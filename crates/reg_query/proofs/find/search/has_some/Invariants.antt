use Rattle.std.proofs.Common.{◌↔◌, map, length}
use Rattle.reg_report.specs.Seen.{row_seen}
use Rattle.reg_query.specs.Queries.{HasSome}
use Rattle.reg_query.proofs.find.search.has_some.Given as goal

abbrev pub invariant-loop-row : goal.invariant-loop-row
invariant-loop-row l = HasSome (map row_seen l.rows) l.word ↔ HasSome (map row_seen l.rest) l.word

abbrev pub decreases-loop-row : goal.decreases-loop-row
decreases-loop-row l = length l.rest
