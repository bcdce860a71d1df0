use Rattle.std.proofs.Common.{List, map, filter, ap, ◌∙◌}
use Rattle.std.specs.BTreeSet.{contains}
use Rattle.reg_op.specs.Ids.{Id, id_cmp}
use Rattle.reg_op.specs.Rows.{Row, rows}
use Rattle.reg_report.specs.Seen.{row_seen}
use Rattle.reg_news.specs.Revived.{is_revived}
use Rattle.reg_news.proofs.RevivedLemmas.{rows_kept}
use Rattle.reg_news.proofs.gained.revived.revived_in.Goals as goal

pub returns : goal.returns
returns c =
    ap (map row_seen) c.keep_revived.ensures
    ∙ rows_kept row_seen (is_revived (contains id_cmp c.in_ok-known.known)) c.in_ok-rows.rows.items
    ∙ ap (filter (is_revived (contains id_cmp c.in_ok-known.known))) c.in_ok-rows.ensures.rows
    ∙ (λ j. filter (is_revived (λ (i : Id). c.in_ok-known.ensures i j)) (rows c.args.register.now.ops))
