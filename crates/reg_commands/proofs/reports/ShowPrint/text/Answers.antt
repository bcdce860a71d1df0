use Rattle.reg_commands.proofs.ReportLemmas.{entered}
use Rattle.reg_commands.proofs.reports.ShowPrint.text.Goals as goal

pub returns-in-Ok-clause-prints : goal.returns-in-Ok-clause-prints
returns-in-Ok-clause-prints c = (entered c.args.register.now c.args.self.now.entry c.in-Some.field-0.now c.in-Some.ensures.found.0 c.in-Some.ensures.found.1, c.in-Ok.ensures)
