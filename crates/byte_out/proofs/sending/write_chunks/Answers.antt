use Rattle.std.proofs.Common.{List, ℕ, ◌++◌, ap, sym, ◌∙◌}
use Rattle.byte_out.specs.Place.{untold}
use Rattle.byte_out.proofs.SendLemmas.{cut_sent}
use Rattle.byte_out.proofs.sending.write_chunks.Goals as goal

pub returns-in-Err-clause-fault : goal.returns-in-Err-clause-fault
returns-in-Err-clause-fault g c =
    cut_sent (g.C.Chunks.bytes c.args.content.now) (g.C.Chunks.left c.loop-content.content) c.chunk-chunk.result.now (g.C.Chunks.left c.advance.new.self)
    c.loop-content.written c.in-Err.fault.written (untold (g.K.Sink.state c.args.sink.now)) (untold (g.K.Sink.state c.loop-content.sink)) (untold (g.K.Sink.state c.write_all.new.sink))
    c.loop-content.invariant.sent (c.advance.ensures.next ∙ ap (λ (ws : List ℕ). ws ++ g.C.Chunks.left c.advance.new.self) (sym c.chunk-chunk.ensures)) c.in-Err.ensures.fault
