use Rattle.std.proofs.Common.{refl}
use Rattle.wkt_grammar.specs.declared.table.Node.TheVariants as nodes
use Rattle.wkt_grammar.specs.declared.table.SlotName.TheVariants as slots
use Rattle.wkt_grammar.specs.Denotes.{compound_fields}
use Rattle.wkt_grammar.proofs.Leaves.{text_law}
use Rattle.wkt_grammar.proofs.Nodes.{component_law, ident_law, remark_law, usage_law}
use Rattle.crs_part.specs.declared.crs.Compound.{Compound}
use Rattle.wkt_build.proofs.Rows.{done, first_one, made_node, then_each, then_maybe, then_one}
use Rattle.wkt_build.proofs.crs.build_compound.Goals as goal

pub returns-clause-builds : goal.returns-clause-builds
returns-clause-builds c =
    let v : Compound = record { name = c.in_ok-name.name; first = c.in_ok-first.first; second = c.in_ok-second.second; usages = c.in_ok-usages.usages; ids = c.in_ok-ids.ids; remark = c.in_ok-remark.remark } in
    made_node nodes.CompoundCrs compound_fields c.args.cursor.now c.pass-2.new.cursor v c.pass.ensures.left
    (first_one slots.Name text_law c.pass.new.cursor c.in_ok-name.name c.in_ok-name.ensures.builds
    (then_one slots.First component_law c.take_one.new.cursor c.in_ok-first.first c.in_ok-first.ensures.builds
    (then_one slots.Second component_law c.take_one-2.new.cursor c.in_ok-second.second c.in_ok-second.ensures.builds
    (then_each slots.Usage usage_law refl c.take_one-3.new.cursor c.in_ok-usages.usages c.in_ok-usages.ensures.builds
    (then_each slots.Id ident_law refl c.take_each.new.cursor c.in_ok-ids.ids c.in_ok-ids.ensures.builds
    (then_maybe slots.Remark remark_law refl c.take_each-2.new.cursor c.in_ok-remark.remark c.in_ok-remark.ensures.some c.in_ok-remark.ensures.none c.in_ok-remark.ensures.absent
    (done c.take_maybe_value.new.cursor))))))) c.pass-2.ensures.left
