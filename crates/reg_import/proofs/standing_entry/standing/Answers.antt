use Rattle.std.proofs.Common.{map, filter, ap, ◌∙◌}
use Rattle.reg_report.specs.Seen.{row_seen}
use Rattle.reg_import.specs.Known.{stands}
use Rattle.reg_import.proofs.KnownLemmas.{standing_seen}
use Rattle.reg_import.proofs.standing_entry.standing.Goals as goal

pub returns : goal.returns
returns c = ap (map row_seen) c.keep_those_that_stand.ensures ∙ standing_seen c.in_ok-rows.rows.items ∙ ap (filter stands) c.in_ok-rows.ensures.rows
