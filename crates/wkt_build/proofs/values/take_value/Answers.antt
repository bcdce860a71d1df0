use Rattle.std.proofs.Common.{List, drop, sym, ap, ◌∙◌, subst}
use Rattle.wkt_tree.specs.Tree.{Tok}
use Rattle.wkt_grammar.specs.declared.table.Node.TheVariants as nodes
use Rattle.wkt_grammar.specs.Denotes.{value_fields}
use Rattle.wkt_build.specs.Reads.{Next}
use Rattle.wkt_build.proofs.Rows.{argument_result}
use Rattle.wkt_build.proofs.values.take_value.Goals as goal

pub returns-clause-builds : goal.returns-clause-builds
returns-clause-builds c = λ x first behind rest f e n.
    argument_result c.args.keyword nodes.Value value_fields c.pass.new.cursor c.build_value.new.cursor c.build_value.result c.build_value.ensures.builds x rest f (subst (λ (l : List Tok). Next x l rest) (sym (c.pass.ensures.left ∙ ap (drop 1) e)) n)
