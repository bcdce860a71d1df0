use Rattle.std.proofs.Common.{◌++◌, sym, ap, ◌∙◌}
use Rattle.std.proofs.lemmas.List.{take_all}
use Rattle.std.proofs.lemmas.List.Folds.{flat_map-map}
use Rattle.std.specs.List.{flat_map}
use Rattle.csv.specs.Writing.{row_text, default_writer}
use Rattle.reg_report.specs.Conflicts.{Contested}
use Rattle.reg_report.specs.Contenders.{conflict_seen}
use Rattle.reg_report.specs.Lines.{conflicts_header, conflict_lines, rows_text}
use Rattle.reg_report.proofs.conflict_lines.conflicts_text.Goals as goal

pub returns-in-Ok : goal.returns-in-Ok
returns-in-Ok c =
    let header = row_text default_writer conflicts_header in
    c.in-Ok.ensures.ok ∙ c.loop-conflict.invariant.1
    ∙ (λ j. header ++ flat_map (λ k. rows_text (conflict_lines (conflict_seen k))) (take_all c.loop-conflict.conflict-index c.args.conflicts.now c.loop-conflict-test.false j))
    ∙ ap (λ t. header ++ t) (sym (flat_map-map (λ (k : Contested). rows_text (conflict_lines k)) conflict_seen c.args.conflicts.now))
