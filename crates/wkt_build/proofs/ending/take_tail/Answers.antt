use Rattle.std.proofs.Common.{refl}
use Rattle.wkt_grammar.specs.declared.table.SlotName.TheVariants as slots
use Rattle.wkt_grammar.proofs.Nodes.{ident_law, remark_law, usage_law}
use Rattle.wkt_build.proofs.Rows.{done, then_each, then_maybe}
use Rattle.wkt_build.proofs.ending.take_tail.Goals as goal

pub returns-clause-builds : goal.returns-clause-builds
returns-clause-builds c =
    then_each slots.Usage usage_law refl c.args.cursor.now c.in_ok-usages.usages c.in_ok-usages.ensures.builds
    (then_each slots.Id ident_law refl c.take_each.new.cursor c.in_ok-ids.ids c.in_ok-ids.ensures.builds
    (then_maybe slots.Remark remark_law refl c.take_each-2.new.cursor c.in_ok-remark.remark c.in_ok-remark.ensures.some c.in_ok-remark.ensures.none c.in_ok-remark.ensures.absent
    (done c.take_maybe_value.new.cursor)))
