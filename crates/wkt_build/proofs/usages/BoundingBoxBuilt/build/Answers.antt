use Rattle.wkt_grammar.specs.declared.table.Keyword.TheVariants as keywords
use Rattle.wkt_grammar.specs.declared.table.Node.TheVariants as nodes
use Rattle.wkt_grammar.specs.declared.table.SlotName.TheVariants as slots
use Rattle.wkt_grammar.specs.Denotes.{bounding_box_fields}
use Rattle.wkt_grammar.proofs.Leaves.{number_law}
use Rattle.crs_part.specs.declared.usages.BoundingBox.{BoundingBox}
use Rattle.wkt_build.proofs.Rows.{done, first_one, made_argument, made_node, then_one}
use Rattle.wkt_build.proofs.usages.BoundingBoxBuilt.build.Goals as goal

pub returns-clause-builds : goal.returns-clause-builds
returns-clause-builds c =
    let v : BoundingBox = record { south = c.in_ok-south.south; west = c.in_ok-west.west; north = c.in_ok-north.north; east = c.in_ok-east.east } in
    made_argument keywords.BoundingBox nodes.BoundingBox bounding_box_fields c.args.cursor.now c.pass-2.new.cursor v
    (made_node nodes.BoundingBox bounding_box_fields c.args.cursor.now c.pass-2.new.cursor v c.pass.ensures.left
    (first_one slots.South number_law c.pass.new.cursor c.in_ok-south.south c.in_ok-south.ensures.builds
    (then_one slots.West number_law c.take_one.new.cursor c.in_ok-west.west c.in_ok-west.ensures.builds
    (then_one slots.North number_law c.take_one-2.new.cursor c.in_ok-north.north c.in_ok-north.ensures.builds
    (then_one slots.East number_law c.take_one-3.new.cursor c.in_ok-east.east c.in_ok-east.ensures.builds
    (done c.take_one-4.new.cursor))))) c.pass-2.ensures.left)
