use Rattle.wkt_grammar.specs.declared.table.Node.TheVariants as nodes
use Rattle.wkt_grammar.specs.declared.table.SlotName.TheVariants as slots
use Rattle.wkt_grammar.specs.Denotes.{base_fields}
use Rattle.wkt_grammar.proofs.Leaves.{text_law}
use Rattle.wkt_grammar.proofs.Nodes.{geodetic_frame_law}
use Rattle.crs_part.specs.declared.crs.BaseCrs.{BaseCrs}
use Rattle.wkt_build.proofs.Rows.{first_one, made_node, then_one}
use Rattle.wkt_build.proofs.crs.build_base.Goals as goal

pub returns-clause-builds : goal.returns-clause-builds
returns-clause-builds c =
    let v : BaseCrs = record { kind = c.args.kind; name = c.in_ok-name.name; datum = c.in_ok-datum.datum; prime_meridian = c.in_ok-ending.ending.prime_meridian; unit = c.in_ok-ending.ending.unit; ids = c.in_ok-ending.ending.ids } in
    made_node nodes.BaseCrs base_fields c.args.cursor.now c.pass-2.new.cursor v c.pass.ensures.left
    (first_one slots.Name text_law c.pass.new.cursor c.in_ok-name.name c.in_ok-name.ensures.builds
    (then_one slots.Datum geodetic_frame_law c.take_one.new.cursor c.in_ok-datum.datum c.in_ok-datum.ensures.builds
    c.in_ok-ending.ensures.builds)) c.pass-2.ensures.left
