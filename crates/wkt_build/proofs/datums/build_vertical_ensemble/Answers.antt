use Rattle.std.proofs.Common.{refl}
use Rattle.wkt_grammar.specs.declared.table.Node.TheVariants as nodes
use Rattle.wkt_grammar.specs.declared.table.SlotName.TheVariants as slots
use Rattle.wkt_grammar.specs.Denotes.{vertical_ensemble_fields}
use Rattle.wkt_grammar.proofs.Leaves.{text_law}
use Rattle.wkt_grammar.proofs.Nodes.{accuracy_law, ident_law, member_law}
use Rattle.crs_part.specs.declared.datums.VerticalEnsemble.{VerticalEnsemble}
use Rattle.wkt_build.proofs.Rows.{done, first_one, made_node, then_each, then_one, then_some}
use Rattle.wkt_build.proofs.datums.build_vertical_ensemble.Goals as goal

pub returns-clause-builds : goal.returns-clause-builds
returns-clause-builds c =
    let v : VerticalEnsemble = record { name = c.in_ok-name.name; members = record { first = c.in_ok-first_members.first_members; others = c.in_ok-others_members.others_members }; accuracy = c.in_ok-accuracy.accuracy; ids = c.in_ok-ids.ids } in
    made_node nodes.VerticalEnsemble vertical_ensemble_fields c.args.cursor.now c.pass-2.new.cursor v c.pass.ensures.left
    (first_one slots.Name text_law c.pass.new.cursor c.in_ok-name.name c.in_ok-name.ensures.builds
    (then_some slots.Member member_law refl c.take_one.new.cursor c.take_one-2.new.cursor (record { first = c.in_ok-first_members.first_members; others = c.in_ok-others_members.others_members }) c.in_ok-first_members.ensures.builds c.in_ok-others_members.ensures.builds
    (then_one slots.Accuracy accuracy_law c.take_each.new.cursor c.in_ok-accuracy.accuracy c.in_ok-accuracy.ensures.builds
    (then_each slots.Id ident_law refl c.take_one-3.new.cursor c.in_ok-ids.ids c.in_ok-ids.ensures.builds
    (done c.take_each-2.new.cursor))))) c.pass-2.ensures.left
