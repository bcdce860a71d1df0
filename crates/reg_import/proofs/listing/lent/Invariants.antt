use Rattle.std.proofs.Common.{◌≡◌, map, take}
use Rattle.reg_report.specs.Seen.{row_seen}
use Rattle.reg_import.proofs.listing.lent.Given as goal

abbrev pub invariant-loop-row : goal.invariant-loop-row
invariant-loop-row l = map (λ r. row_seen r.now) l.lent.items ≡ map row_seen (take l.row-index l.fn.rows)
