use Rattle.std.proofs.Common.{◌≡◌, length}
use Rattle.byte_out.specs.Place.{untold}
use Rattle.byte_out.proofs.SendLemmas.{Sent}
use Rattle.byte_out.proofs.sending.write_chunks.Given as goal

abbrev pub invariant-loop-content : goal.invariant-loop-content
invariant-loop-content g l = record {
  same : g.C.Chunks.bytes l.content ≡ g.C.Chunks.bytes l.fn.content;
  sent : Sent (g.C.Chunks.bytes l.fn.content) (g.C.Chunks.left l.content) l.written (untold (g.K.Sink.state l.fn.sink)) (untold (g.K.Sink.state l.sink));
}

abbrev pub decreases-loop-content : goal.decreases-loop-content
decreases-loop-content g l = length (g.C.Chunks.left l.content)
