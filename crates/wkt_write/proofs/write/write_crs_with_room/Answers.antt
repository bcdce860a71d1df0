use Rattle.std.proofs.Common.{ℕ, List, ◌++◌, ap, ◌∙◌}
use Rattle.wkt_grammar.specs.Trees.{parts_tree}
use Rattle.wkt_write.specs.declared.layout.Layout.TheVariants.{OneLine}
use Rattle.wkt_write.specs.Layout.{laid}
use Rattle.wkt_write.proofs.Layouts.{on_one_line}
use Rattle.wkt_write.proofs.write.write_crs_with_room.Goals as goal

pub returns : goal.returns
returns c =
    let tree = parts_tree c.args.parts.now in
    c.in_ok-push_to.ensures ∙ (ap (λ (l : List ℕ). l ++ laid OneLine tree) c.in_ok-out.ensures.items ∙ on_one_line tree)
