use Rattle.std.proofs.Common.{sym, ap, ◌∙◌}
use Rattle.wkt_crs.proofs.Defining.{spelled_by_definition}
use Rattle.reg_commands.specs.Export.{text_in}
use Rattle.reg_commands.proofs.wkt.text_in.Goals as goal

pub returns-in_ok-text-in-Canonical : goal.returns-in_ok-text-in-Canonical
returns-in_ok-text-in-Canonical c =
    let d = c.as_bytes.ensures.canonical in
    (d.crs, (d.canonical, spelled_by_definition c.args.definition.now d), c.in_ok-text-in-Canonical.ensures.items ∙ (c.as_bytes.ensures.bytes ∙ (d.canonical ∙ ap (λ f. text_in f d.crs) (sym c.in-Canonical.is))))

pub returns-in_ok-text-in-Indented : goal.returns-in_ok-text-in-Indented
returns-in_ok-text-in-Indented c =
    let crs = c.in_ok-crs-in-Indented.crs in
    (crs, c.in_ok-crs-in-Indented.ensures, c.in_ok-text-in-Indented.ensures ∙ ap (λ f. text_in f crs) (sym c.in-Indented.is))
