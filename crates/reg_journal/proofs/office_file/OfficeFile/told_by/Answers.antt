use Rattle.reg_journal.proofs.ForgedLemmas.{told_two, names_any, misuses}
use Rattle.reg_journal.proofs.office_file.OfficeFile.told_by.Goals as goal

pub returns : goal.returns
returns c =
    told_two c.args.self.now c.args.op.now c.body.result.now c.lesser.result c.body.ensures
    (c.lesser.ensures (names_any c.args.self.now c.body.result.now) (misuses c.args.self.now c.args.op.now) c.named_by.ensures c.misused_by.ensures)
