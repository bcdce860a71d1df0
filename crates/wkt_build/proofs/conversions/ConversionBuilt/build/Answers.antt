use Rattle.std.proofs.Common.{refl}
use Rattle.wkt_grammar.specs.declared.table.Keyword.TheVariants as keywords
use Rattle.wkt_grammar.specs.declared.table.Node.TheVariants as nodes
use Rattle.wkt_grammar.specs.declared.table.SlotName.TheVariants as slots
use Rattle.wkt_grammar.specs.Denotes.{conversion_fields}
use Rattle.wkt_grammar.proofs.Leaves.{text_law}
use Rattle.wkt_grammar.proofs.Nodes.{ident_law, method_law, parameter_law}
use Rattle.crs_part.specs.declared.conversions.Conversion.{Conversion}
use Rattle.wkt_build.proofs.Rows.{done, first_one, made_argument, made_node, then_each, then_one}
use Rattle.wkt_build.proofs.conversions.ConversionBuilt.build.Goals as goal

pub returns-clause-builds : goal.returns-clause-builds
returns-clause-builds c =
    let v : Conversion = record { name = c.in_ok-name.name; method = c.in_ok-method.method; parameters = c.in_ok-parameters.parameters; ids = c.in_ok-ids.ids } in
    made_argument keywords.Conversion nodes.Conversion conversion_fields c.args.cursor.now c.pass-2.new.cursor v
    (made_node nodes.Conversion conversion_fields c.args.cursor.now c.pass-2.new.cursor v c.pass.ensures.left
    (first_one slots.Name text_law c.pass.new.cursor c.in_ok-name.name c.in_ok-name.ensures.builds
    (then_one slots.Method method_law c.take_one.new.cursor c.in_ok-method.method c.in_ok-method.ensures.builds
    (then_each slots.Parameter parameter_law refl c.take_one-2.new.cursor c.in_ok-parameters.parameters c.in_ok-parameters.ensures.builds
    (then_each slots.Id ident_law refl c.take_each.new.cursor c.in_ok-ids.ids c.in_ok-ids.ensures.builds
    (done c.take_each-2.new.cursor))))) c.pass-2.ensures.left)
