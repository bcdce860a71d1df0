use Rattle.std.proofs.Common.{[], ◌++◌, map, refl, sym, ap, ◌∙◌, append_assoc, append-nil}
use Rattle.reg_report.specs.Seen.{row_seen}
use Rattle.reg_export.specs.Graph.{IsNodeOf}
use Rattle.reg_export.proofs.EachLemmas.{gathers_none, gathers_more, gathers_all}
use Rattle.reg_export.proofs.graph.push_nodes.Goals as goal
use Rattle.reg_texts.proofs.NamedLemmas.{nothing_left}

pub loop-row-init : goal.loop-row-init
loop-row-init c = ([], sym (append-nil c.args.text.now.items), gathers_none (IsNodeOf c.args.all c.args.ids.now) (map row_seen c.args.rows.now) [] refl)

pub loop-row-preserved : goal.loop-row-preserved
loop-row-preserved c =
    let made = c.loop-row.invariant.0 in
    let pushed = c.in_ok-push_row.ensures in (
      made ++ pushed.0,
      pushed.2 ∙ ap (λ t. t ++ pushed.0) c.loop-row.invariant.1 ∙ append_assoc c.args.text.now.items made pushed.0,
      gathers_more (IsNodeOf c.args.all c.args.ids.now) (map row_seen c.args.rows.now) (map row_seen c.loop-row.rest.now) (map row_seen c.in-Some.others.now) (row_seen c.in-Some.row.now) made pushed.0 (made ++ pushed.0)
          (ap (map row_seen) c.in-Some.ensures.cases.0) pushed.1 refl c.loop-row.invariant.2,
    )

pub returns : goal.returns
returns c = (
  c.loop-row.invariant.0,
  gathers_all (IsNodeOf c.args.all c.args.ids.now) (map row_seen c.args.rows.now) (map row_seen c.loop-row.rest.now) c.loop-row.invariant.0 (nothing_left row_seen c.loop-row.rest.now c.in_default.ensures.cases) c.loop-row.invariant.2,
  c.loop-row.invariant.1,
)
