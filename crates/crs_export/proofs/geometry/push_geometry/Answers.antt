use Rattle.std.proofs.Common.{◌++◌, cond, sym, ◌∙◌}
use Rattle.crs_export.specs.Boxes.{whole, parts, cut}
use Rattle.crs_export.proofs.geometry.push_geometry.Goals as goal

pub returns-then-is_less : goal.returns-then-is_less
returns-then-is_less c =
    let old = c.args.text.now.items in
    let edges = c.in_ok-edges.ensures in
    let is_cut = sym c.is_less.ensures ∙ c.if-is_less.true in
    c.in_ok-push_cut.ensures ∙ (λ j. old ++ parts (edges.west j) (edges.south j) (edges.east j) (edges.north j) (c.has_west.ensures j) (c.has_east.ensures j))
    ∙ sym (λ j. old ++ cond (is_cut j) (cut c.args.found.now) (whole c.args.found.now))
