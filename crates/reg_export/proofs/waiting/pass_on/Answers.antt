use Rattle.std.proofs.Common.{List, ℕ, subst}
use Rattle.byte_io.specs.Whole.{IsCutAt}
use Rattle.reg_export.proofs.WrittenLemmas.{cut}
use Rattle.reg_export.proofs.waiting.pass_on.Goals as goal

pub returns-in-Err-clause-fault : goal.returns-in-Err-clause-fault
returns-in-Err-clause-fault g c = λ first text h.
    cut c.in-Err.fault.written h
    (subst (λ (l : List ℕ). IsCutAt c.in-Err.fault.written l (g.K.Sink.state c.args.sink.now) (g.K.Sink.state c.write_all.new.sink)) c.deref.ensures.value c.in-Err.ensures.fault)
