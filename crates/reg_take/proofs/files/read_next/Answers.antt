use Rattle.reg_take.proofs.FileLemmas.{late_fault}
use Rattle.reg_take.proofs.files.read_next.Goals as goal

pub returns-in-Err-clause-fault : goal.returns-in-Err-clause-fault
returns-in-Err-clause-fault g c =
    late_fault c.args.number (g.S.LateSource.shut c.args.file.now) (g.S.Source.state c.args.file.now) (g.S.Source.state c.read_part_beside-read.new.source) (g.S.Source.state c.close.new.self)
    (g.S.LateSource.shut c.close.new.self) c.is_shut.result c.in-Err.fault c.fault_in.result c.close.ensures.gave c.is_shut.ensures c.fault_in.ensures c.in-Err.ensures.fault
