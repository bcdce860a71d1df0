use Rattle.std.proofs.Common.{map}
use Rattle.reg_desk.proofs.PartLemmas.{none_given}
use Rattle.reg_desk.proofs.diff.read_others.Goals as goal

pub returns-in_default-clause-fault : goal.returns-in_default-clause-fault
returns-in_default-clause-fault g c = none_given (map g.S.Source.state c.args.others.now)
