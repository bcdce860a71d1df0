use Rattle.std.proofs.Common.{refl}
use Rattle.wkt_grammar.specs.declared.table.Keyword.TheVariants as keywords
use Rattle.wkt_grammar.specs.declared.table.Node.TheVariants as nodes
use Rattle.wkt_grammar.specs.declared.table.SlotName.TheVariants as slots
use Rattle.wkt_grammar.specs.Denotes.{parameter_fields}
use Rattle.wkt_grammar.proofs.Leaves.{number_law, text_law}
use Rattle.wkt_grammar.proofs.Nodes.{ident_law, unit_law}
use Rattle.crs_part.specs.declared.conversions.Parameter.{Parameter}
use Rattle.wkt_build.proofs.Rows.{done, first_one, made_argument, made_node, then_each, then_maybe, then_one}
use Rattle.wkt_build.proofs.conversions.ParameterBuilt.build.Goals as goal

pub returns-clause-builds : goal.returns-clause-builds
returns-clause-builds c =
    let v : Parameter = record { name = c.in_ok-name.name; value = c.in_ok-value.value; unit = c.in_ok-unit.unit; ids = c.in_ok-ids.ids } in
    made_argument keywords.Parameter nodes.Parameter parameter_fields c.args.cursor.now c.pass-2.new.cursor v
    (made_node nodes.Parameter parameter_fields c.args.cursor.now c.pass-2.new.cursor v c.pass.ensures.left
    (first_one slots.Name text_law c.pass.new.cursor c.in_ok-name.name c.in_ok-name.ensures.builds
    (then_one slots.Value number_law c.take_one.new.cursor c.in_ok-value.value c.in_ok-value.ensures.builds
    (then_maybe slots.Unit unit_law refl c.take_one-2.new.cursor c.in_ok-unit.unit c.in_ok-unit.ensures.some c.in_ok-unit.ensures.none c.in_ok-unit.ensures.absent
    (then_each slots.Id ident_law refl c.take_maybe.new.cursor c.in_ok-ids.ids c.in_ok-ids.ensures.builds
    (done c.take_each.new.cursor))))) c.pass-2.ensures.left)
