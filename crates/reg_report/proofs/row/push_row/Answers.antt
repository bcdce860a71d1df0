use Rattle.reg_report.proofs.RowLemmas.{row_made}
use Rattle.reg_report.proofs.row.push_row.Goals as goal

pub returns : goal.returns
returns c = λ s there own.
    row_made s c.args.op.now c.args.rows.now.items c.push.new.self.items _ c.in-Enter.definition c.body.result.now there c.body.ensures c.in-Enter.is c.in_ok-push.ensures.items c.id.ensures.value c.in_ok-definition.ensures
    (λ there. c.status_by.ensures s c.args.op.now.id there own) (c.in_ok-newer.ensures s c.args.op.now.id own)
