use Rattle.std.proofs.Common.{arith}
use Rattle.byte_io.proofs.Known.{fault_further}
use Rattle.byte_io.proofs.reading.read_up_to.Goals as goal

pub returns-in-Err-clause-fault : goal.returns-in-Err-clause-fault
returns-in-Err-clause-fault g c =
    let was = c.loop-chunk.invariant in
    fault_further c.args.most _ (g.S.Source.state c.args.source.now) (g.S.Source.state c.loop-chunk.source) (g.S.Source.state c.read_chunk.new.source)
    c.loop-chunk.bytes.items c.read_chunk.new.bytes.items was.given was.front (omega arith) was.quiet was.going c.in-Err.fault (omega arith) c.in-Err.ensures
