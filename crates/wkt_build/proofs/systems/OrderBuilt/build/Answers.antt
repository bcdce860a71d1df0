use Rattle.wkt_grammar.specs.declared.table.Keyword.TheVariants as keywords
use Rattle.wkt_grammar.specs.declared.table.Node.TheVariants as nodes
use Rattle.wkt_grammar.specs.declared.table.SlotName.TheVariants as slots
use Rattle.wkt_grammar.specs.Denotes.{order_fields}
use Rattle.wkt_grammar.proofs.Leaves.{count_law}
use Rattle.crs_part.specs.declared.systems.Order.{Order}
use Rattle.wkt_build.proofs.Rows.{count_as, done, first_one, made_argument, made_node}
use Rattle.wkt_build.proofs.systems.OrderBuilt.build.Goals as goal

pub returns-clause-builds : goal.returns-clause-builds
returns-clause-builds c =
    let v : Order = c.order_of.result in
    made_argument keywords.Order nodes.Order order_fields c.args.cursor.now c.pass-2.new.cursor v
    (made_node nodes.Order order_fields c.args.cursor.now c.pass-2.new.cursor v c.pass.ensures.left
    (first_one slots.Position count_law c.pass.new.cursor (record { value = v.position; small = v.count }) (count_as c.pass.new.cursor c.take_one.new.cursor c.in_ok-position.position v.position v.count c.order_of.ensures c.in_ok-position.ensures.builds)
    (done c.take_one.new.cursor)) c.pass-2.ensures.left)
