use Rattle.std.proofs.Common.{List, ℕ, ◌++◌, ap, ◌∙◌}
use Rattle.csv_table.specs.declared.columns.Column.{Column}
use Rattle.csv_table.specs.Table.{lines, columns}
use Rattle.csv_table.proofs.ReadLemmas.{one_list}
use Rattle.csv_table.proofs.lines.table.Goals as goal

pub returns : goal.returns
returns c =
    let first = c.in_ok-columns.ensures in
    let all = c.in_ok-push_lines.ensures in
    let made = c.deref.ensures.value ∙ first.2 ∙ ap columns (one_list c.args.rows.now first.0 all.0 first.1 all.1) in
    (all.0, all.1, all.2 ∙ ap (λ (l : List ℕ). l ++ lines c.deref.result.now all.0) c.new-text.ensures.items ∙ ap (λ (cs : List Column). lines cs all.0) made)
