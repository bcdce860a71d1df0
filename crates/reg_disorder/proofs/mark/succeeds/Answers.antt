use Rattle.std.proofs.Common.{sym, ap, ◌∙◌}
use Rattle.std.specs.Ordering.{is_eq}
use Rattle.reg_report.specs.Keys.{key_bytes}
use Rattle.reg_report.specs.Seen.{row_seen}
use Rattle.reg_disorder.proofs.MarkLemmas.{succeeds_is}
use Rattle.reg_disorder.proofs.mark.succeeds.Goals as goal

pub returns-then-not-is_retired : goal.returns-then-not-is_retired
returns-then-not-is_retired c =
    succeeds_is (row_seen c.args.row.now) (row_seen c.args.newer.now) (key_bytes c.key_of-own.result) (key_bytes c.key_of-other.result) c.is_eq.result c.key_of-own.ensures c.key_of-other.ensures
    (sym c.is_retired.ensures ∙ c.if-not-is_retired.true) (c.is_eq.ensures ∙ ap is_eq c.cmp.ensures)
