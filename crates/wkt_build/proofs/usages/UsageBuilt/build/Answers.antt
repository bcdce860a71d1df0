use Rattle.std.proofs.Common.{refl}
use Rattle.wkt_grammar.specs.declared.table.Keyword.TheVariants as keywords
use Rattle.wkt_grammar.specs.declared.table.Node.TheVariants as nodes
use Rattle.wkt_grammar.specs.declared.table.SlotName.TheVariants as slots
use Rattle.wkt_grammar.specs.Denotes.{usage_fields}
use Rattle.wkt_grammar.proofs.Nodes.{area_law, bounding_box_law, scope_law, vertical_extent_law}
use Rattle.crs_part.specs.declared.usages.Usage.{Usage}
use Rattle.wkt_build.proofs.Rows.{done, first_one, made_argument, made_node, then_maybe}
use Rattle.wkt_build.proofs.usages.UsageBuilt.build.Goals as goal

pub returns-clause-builds : goal.returns-clause-builds
returns-clause-builds c =
    let v : Usage = record { scope = c.in_ok-scope.scope; area = c.in_ok-area.area; bounding_box = c.in_ok-bounding_box.bounding_box; vertical_extent = c.in_ok-vertical_extent.vertical_extent } in
    made_argument keywords.Usage nodes.Usage usage_fields c.args.cursor.now c.pass-2.new.cursor v
    (made_node nodes.Usage usage_fields c.args.cursor.now c.pass-2.new.cursor v c.pass.ensures.left
    (first_one slots.Scope scope_law c.pass.new.cursor c.in_ok-scope.scope c.in_ok-scope.ensures.builds
    (then_maybe slots.Area area_law refl c.take_value.new.cursor c.in_ok-area.area c.in_ok-area.ensures.some c.in_ok-area.ensures.none c.in_ok-area.ensures.absent
    (then_maybe slots.BoundingBox bounding_box_law refl c.take_maybe_value.new.cursor c.in_ok-bounding_box.bounding_box c.in_ok-bounding_box.ensures.some c.in_ok-bounding_box.ensures.none c.in_ok-bounding_box.ensures.absent
    (then_maybe slots.VerticalExtent vertical_extent_law refl c.take_maybe.new.cursor c.in_ok-vertical_extent.vertical_extent c.in_ok-vertical_extent.ensures.some c.in_ok-vertical_extent.ensures.none c.in_ok-vertical_extent.ensures.absent
    (done c.take_maybe-2.new.cursor))))) c.pass-2.ensures.left)
