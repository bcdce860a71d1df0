use Rattle.wkt_grammar.specs.declared.table.Node.TheVariants as nodes
use Rattle.wkt_grammar.specs.declared.table.SlotName.TheVariants as slots
use Rattle.wkt_grammar.specs.Denotes.{vertical_fields}
use Rattle.wkt_grammar.proofs.Leaves.{text_law}
use Rattle.wkt_grammar.proofs.Nodes.{vertical_frame_law}
use Rattle.crs_part.specs.declared.crs.Vertical.{Vertical}
use Rattle.wkt_build.proofs.Rows.{first_one, made_node, then_one}
use Rattle.wkt_build.proofs.crs.build_vertical.Goals as goal

pub returns-clause-builds : goal.returns-clause-builds
returns-clause-builds c =
    let v : Vertical = record { name = c.in_ok-name.name; datum = c.in_ok-datum.datum; system = c.in_ok-ending.ending.system; axes = c.in_ok-ending.ending.axes; unit = c.in_ok-ending.ending.unit; geoid_models = c.in_ok-ending.ending.geoid_models; usages = c.in_ok-ending.ending.usages; ids = c.in_ok-ending.ending.ids; remark = c.in_ok-ending.ending.remark } in
    made_node nodes.VerticalCrs vertical_fields c.args.cursor.now c.pass-2.new.cursor v c.pass.ensures.left
    (first_one slots.Name text_law c.pass.new.cursor c.in_ok-name.name c.in_ok-name.ensures.builds
    (then_one slots.Datum vertical_frame_law c.take_one.new.cursor c.in_ok-datum.datum c.in_ok-datum.ensures.builds
    (c.in_ok-ending.ensures.builds))) c.pass-2.ensures.left
