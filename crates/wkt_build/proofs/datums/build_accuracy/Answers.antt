use Rattle.wkt_grammar.specs.declared.table.Node.TheVariants as nodes
use Rattle.wkt_grammar.specs.declared.table.SlotName.TheVariants as slots
use Rattle.wkt_grammar.specs.Denotes.{accuracy_fields}
use Rattle.wkt_grammar.proofs.Leaves.{number_law}
use Rattle.crs_number.specs.declared.decimals.Decimal.{Decimal}
use Rattle.wkt_build.proofs.Rows.{done, first_one, made_node}
use Rattle.wkt_build.proofs.datums.build_accuracy.Goals as goal

pub returns-clause-builds : goal.returns-clause-builds
returns-clause-builds c =
    let v : Decimal = c.in_ok-accuracy.accuracy in
    made_node nodes.EnsembleAccuracy accuracy_fields c.args.cursor.now c.pass-2.new.cursor v c.pass.ensures.left
    (first_one slots.Value number_law c.pass.new.cursor c.in_ok-accuracy.accuracy c.in_ok-accuracy.ensures.builds
    (done c.take_one.new.cursor)) c.pass-2.ensures.left
