use Rattle.wkt_grammar.specs.declared.table.Node.TheVariants as nodes
use Rattle.wkt_grammar.specs.declared.table.SlotName.TheVariants as slots
use Rattle.wkt_grammar.specs.Denotes.{value_fields}
use Rattle.wkt_grammar.proofs.Leaves.{text_law}
use Rattle.crs_part.specs.declared.text.Text.{Text}
use Rattle.wkt_build.proofs.Rows.{done, first_one, made_node}
use Rattle.wkt_build.proofs.values.build_value.Goals as goal

pub returns-clause-builds : goal.returns-clause-builds
returns-clause-builds c =
    let v : Text = c.in_ok-value.value in
    made_node nodes.Value value_fields c.args.cursor.now c.pass-2.new.cursor v c.pass.ensures.left
    (first_one slots.Value text_law c.pass.new.cursor c.in_ok-value.value c.in_ok-value.ensures.builds
    (done c.take_one.new.cursor)) c.pass-2.ensures.left
