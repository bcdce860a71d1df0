use Rattle.reg_page.specs.Blocks.{setting, bytes_of}
use Rattle.reg_page.proofs.writing.write_parts.Goals as goal

pub returns-in-Err-clause-fault : goal.returns-in-Err-clause-fault
returns-in-Err-clause-fault g c =
    c.in-Err.ensures.fault (bytes_of (setting c.args.names.now c.args.register.now.ops c.args.described.now c.args.acts.now) c.args.later.now)

pub returns-in-Ok-write_rest-clause-written : goal.returns-in-Ok-write_rest-clause-written
returns-in-Ok-write_rest-clause-written g c =
    c.in-Ok-write_rest.ensures.written (g.K.Sink.state c.args.sink.now) _
    (c.in-Ok.ensures.passed (bytes_of (setting c.args.names.now c.args.register.now.ops c.args.described.now c.args.acts.now) c.args.later.now))

pub returns-in-Err-write_rest-clause-fault : goal.returns-in-Err-write_rest-clause-fault
returns-in-Err-write_rest-clause-fault g c =
    c.in-Err-write_rest.ensures.fault (g.K.Sink.state c.args.sink.now) _
    (c.in-Ok.ensures.passed (bytes_of (setting c.args.names.now c.args.register.now.ops c.args.described.now c.args.acts.now) c.args.later.now))
