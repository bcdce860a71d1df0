use Rattle.std.proofs.Common.{◌≡◌, rules, ◌∙◌}
use Rattle.std.specs.List.{count_by}
use Rattle.reg_report.specs.declared.row.Row.{Row}
use Rattle.reg_report.specs.Seen.{row_seen}
use Rattle.reg_query.specs.Figures.{has_status}
use Rattle.reg_query.proofs.FigureLemmas.{count_map}
use Rattle.reg_query.proofs.figures.register.count_status.Goals as goal

pub returns : goal.returns
returns c =
    let counted : c.count.result ≡ count_by (λ (r : Row). has_status c.args.wanted (row_seen r)) c.args.rows.now = search rules in
    counted ∙ count_map row_seen (has_status c.args.wanted) c.args.rows.now
