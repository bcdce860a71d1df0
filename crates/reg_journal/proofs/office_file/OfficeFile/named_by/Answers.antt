use Rattle.reg_journal.proofs.ForgedLemmas.{named_two}
use Rattle.reg_journal.proofs.office_file.OfficeFile.named_by.Goals as goal

pub returns-in-Supersede : goal.returns-in-Supersede
returns-in-Supersede c = named_two c.args.self.now c.args.body.now _ _ c.lesser.result c.in-Supersede.is (c.lesser.ensures _ _ c.above-first.ensures c.above-second.ensures)
