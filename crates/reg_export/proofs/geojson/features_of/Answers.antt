use Rattle.std.proofs.Common.{ℕ, ◌++◌, map, sym, ap, ◌∙◌, subst}
use Rattle.std.specs.Global.{Vec}
use Rattle.reg_report.specs.Seen.{row_seen}
use Rattle.reg_export.specs.Geojson.{AreFeaturesOf}
use Rattle.reg_export.proofs.geojson.features_of.Goals as goal

pub returns : goal.returns
returns c =
    let pushed = c.in_ok-push_of.ensures in
    subst (AreFeaturesOf (row_seen c.args.row.now)) (sym (pushed.2 ∙ ap (λ l. map (λ (f : Vec ℕ). f.items) l ++ pushed.0) c.new-made.ensures.items)) pushed.1
