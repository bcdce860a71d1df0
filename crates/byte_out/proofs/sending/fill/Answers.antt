use Rattle.std.proofs.Common.{List, ℕ, ◌++◌, ap, sym, ◌∙◌}
use Rattle.byte_out.proofs.SendLemmas.{cut_sent}
use Rattle.byte_out.proofs.sending.fill.Goals as goal

pub returns-in-Err-clause-fault : goal.returns-in-Err-clause-fault
returns-in-Err-clause-fault g c =
    cut_sent (g.C.Chunks.bytes c.args.content.now) (g.C.Chunks.left c.loop-content.content) c.chunk-chunk.result.now (g.C.Chunks.left c.advance.new.self)
    c.loop-content.written c.in-Err.fault.written (g.P.Place.state c.args.place.now) (g.P.Place.state c.loop-content.place) (g.P.Place.state c.write.new.self)
    c.loop-content.invariant.sent (c.advance.ensures.next ∙ ap (λ (ws : List ℕ). ws ++ g.C.Chunks.left c.advance.new.self) (sym c.chunk-chunk.ensures)) c.in-Err.ensures.fault
