use Rattle.std.proofs.Common.{map, subst}
use Rattle.reg_report.specs.Contenders.{conflict_seen}
use Rattle.reg_report.specs.Seen.{row_seen}
use Rattle.reg_export.specs.Graph.{linked, IsNodeOf}
use Rattle.reg_export.specs.Titles.{Each}
use Rattle.reg_export.proofs.DrawnLemmas.{nodes_too, five}
use Rattle.reg_export.proofs.graph.push_graph.Goals as goal

pub returns : goal.returns
returns c =
    let rs = map row_seen c.args.rows.now in
    let n = c.in_ok-push_nodes.ensures in (
      n.0,
      nodes_too c.args.all (linked c.args.register.now.ops rs (map conflict_seen c.args.conflicts.now)) c.in_ok-ids.ids.items c.in_ok-ids.ensures.permutation rs n.0 (subst (λ l. Each (IsNodeOf c.args.all l) rs n.0) c.deref.ensures.value n.1),
      five c.args.text.now.items _ n.0 _ _ _ c.extend_from_slice.new.self.items c.push_nodes.new.text.items c.push_all_edges.new.text.items c.push_all_rivals.new.text.items c.extend_from_slice-2.new.self.items
          c.in_ok-extend_from_slice.ensures.items n.2 c.in_ok-push_all_edges.ensures c.in_ok-push_all_rivals.ensures c.in_ok-extend_from_slice-2.ensures.items,
    )
