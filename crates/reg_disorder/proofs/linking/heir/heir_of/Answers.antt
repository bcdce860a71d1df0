use Rattle.std.proofs.Common.{sym, ◌∙◌}
use Rattle.reg_report.specs.Seen.{row_seen}
use Rattle.reg_report.proofs.FoundLemmas.{one_row}
use Rattle.reg_disorder.specs.LinkHeirs.{rows_in}
use Rattle.reg_disorder.proofs.Inheriting.{no_follow, none_follow}
use Rattle.reg_disorder.proofs.linking.heir.heir_of.Goals as goal

pub returns-in_default-clause-none : goal.returns-in_default-clause-none
returns-in_default-clause-none c = no_follow c.args.register.now.ops c.args.entry (rows_in c.args.heirs.now) c.requires.rows (sym c.stands.ensures ∙ c.if-stands.false) c.in_default.ensures.none

pub returns-clause-none : goal.returns-clause-none
returns-clause-none c =
    none_follow c.args.register.now.ops c.args.entry (rows_in c.args.heirs.now) (row_seen c.in-Some.row.now) c.next_to.result c.requires.rows (one_row (rows_in c.args.heirs.now) c.requires.heirs.order)
    (sym c.stands.ensures ∙ c.if-stands.false) c.in-Some.ensures.some c.next_to.ensures.none
