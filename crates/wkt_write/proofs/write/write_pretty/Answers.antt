use Rattle.std.proofs.Common.{ℕ, List, ◌++◌, ap, ◌∙◌}
use Rattle.wkt_grammar.specs.Trees.{parts_tree}
use Rattle.wkt_write.specs.declared.layout.Layout.TheVariants.{Root}
use Rattle.wkt_write.specs.Layout.{laid}
use Rattle.wkt_write.proofs.Layouts.{at_the_root}
use Rattle.wkt_write.proofs.write.write_pretty.Goals as goal

pub returns : goal.returns
returns c =
    let tree = parts_tree c.args.parts.now in
    c.in_ok-push_to.ensures ∙ (ap (λ (l : List ℕ). l ++ laid Root tree) c.in_ok-out.ensures.items ∙ at_the_root tree)
