use Rattle.std.proofs.Common.{map, take}
use Rattle.reg_report.specs.Seen.{row_seen}
use Rattle.reg_disorder.proofs.LinkLemmas.{Lists}
use Rattle.reg_disorder.proofs.link.links_of.Given as goal

abbrev pub invariant-loop-row : goal.invariant-loop-row
invariant-loop-row l = Lists l.links.items (map row_seen (take l.row-index l.rows))
