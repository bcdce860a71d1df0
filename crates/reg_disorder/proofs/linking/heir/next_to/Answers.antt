use Rattle.reg_report.specs.Seen.{row_seen}
use Rattle.reg_disorder.specs.LinkHeirs.{rows_in}
use Rattle.reg_disorder.proofs.Inheriting.{none_next}
use Rattle.reg_disorder.proofs.linking.heir.next_to.Goals as goal

pub returns-in-None-clause-none : goal.returns-in-None-clause-none
returns-in-None-clause-none c = none_next (rows_in c.args.heirs.now) (row_seen c.args.row.now) c.key_heir.result c.in-None.ensures c.key_heir.ensures
