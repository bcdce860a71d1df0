use Rattle.std.proofs.Common.{refl}
use Rattle.reg_file.specs.Reading.{HasFault}
use Rattle.reg_file.proofs.SourceLemmas.{from_source}
use Rattle.reg_file.proofs.reading.read_register_beside.Goals as goal

pub returns-in-Err-clause-fault : goal.returns-in-Err-clause-fault
returns-in-Err-clause-fault g c =
    from_source HasFault (g.S.Source.state c.args.source.now) (g.S.Source.state c.read_up_to.new.source) c.in-Ok.bytes.items c.in-Ok.ensures.ok c.in-Ok.bytes.items c.in-Err.fault refl
    c.in-Err.ensures.fault
