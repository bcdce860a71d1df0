use Rattle.std.proofs.Common.{sym, ap, ◌∙◌}
use Rattle.reg_file.specs.Files.{first_in}
use Rattle.reg_file.proofs.FirstLemmas.{unnoted, writes_first, first_fault}
use Rattle.reg_file.proofs.first.write_first_register.Goals as goal

pub returns-in-Ok-clause-ok : goal.returns-in-Ok-clause-ok
returns-in-Ok-clause-ok g c =
    let plain = unnoted c.args.register.now.ops (sym (ap first_in (c.as_slice.ensures ∙ c.ops.ensures.items)) ∙ sym c.first_in.ensures ∙ c.in_default.is) in
    writes_first c.args.register.now (g.K.Sink.state c.args.sink.now) (g.K.Sink.state c.write_in.new.sink) plain c.in-Ok.ensures.ok

pub returns-in-Err-clause-fault : goal.returns-in-Err-clause-fault
returns-in-Err-clause-fault g c =
    let plain = unnoted c.args.register.now.ops (sym (ap first_in (c.as_slice.ensures ∙ c.ops.ensures.items)) ∙ sym c.first_in.ensures ∙ c.in_default.is) in
    first_fault c.args.register.now (g.K.Sink.state c.args.sink.now) (g.K.Sink.state c.write_in.new.sink) plain c.in-Err.fault c.in-Err.ensures.fault
