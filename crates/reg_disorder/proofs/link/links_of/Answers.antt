use Rattle.std.proofs.Common.{List, ◌++◌, map, take, ap, ◌∙◌}
use Rattle.reg_op.specs.Rows.{Row}
use Rattle.reg_op.specs.Ids.{Id}
use Rattle.reg_report.specs.Seen.{row_seen}
use Rattle.reg_disorder.specs.Heirs.{link_to}
use Rattle.reg_disorder.proofs.LinkLemmas.{Lists, lists_more, links_are}
use Rattle.reg_disorder.proofs.RowLemmas.{rows_more, rows_all}
use Rattle.reg_disorder.proofs.link.links_of.Goals as goal

pub loop-row-preserved : goal.loop-row-preserved
loop-row-preserved c =
    rows_more (Lists c.push_links.new.links.items) c.args.rows.now c.loop-row.row-index c.row-item.result c.loop-row-test.true c.row-item.is
    (lists_more (map row_seen (take c.loop-row.row-index c.args.rows.now)) (row_seen c.row-item.result) c.loop-row.links.items c.push_links.new.links.items (c.in_ok-push_links.ensures ∙ ap (λ (l : List Id). c.loop-row.links.items ++ map (link_to c.row-item.result.entry) l) c.deref.ensures.value) c.loop-row.invariant)

pub returns-clause-links : goal.returns-clause-links
returns-clause-links c =
    links_are (map row_seen c.args.rows.now) c.loop-row.links.items c.sort_unstable.new.self.items
    (rows_all (Lists c.loop-row.links.items) c.args.rows.now c.loop-row.row-index c.loop-row-test.false c.loop-row.invariant) c.sort_unstable.ensures.permutation
