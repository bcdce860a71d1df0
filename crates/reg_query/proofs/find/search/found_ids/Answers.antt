use Rattle.std.proofs.Common.{map, ap, ◌∙◌}
use Rattle.reg_report.specs.declared.row.Row.{Row}
use Rattle.reg_report.specs.Seen.{row_seen}
use Rattle.reg_query.proofs.FoundLemmas.{entries_seen}
use Rattle.reg_query.proofs.find.search.found_ids.Goals as goal

pub returns : goal.returns
returns c = (
  map row_seen c.in_ok-rows.rows.items,
  c.in_ok-rows.ensures,
  c.in_ok-ids.ensures ∙ ap (map (λ (r : Row). r.entry)) c.deref.ensures.value ∙ entries_seen c.in_ok-rows.rows.items,
)
