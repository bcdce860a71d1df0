use Rattle.std.proofs.Common.{◌≡◌, length}
use Rattle.byte_out.proofs.SendLemmas.{Sent}
use Rattle.byte_out.proofs.sending.fill.Given as goal

abbrev pub invariant-loop-content : goal.invariant-loop-content
invariant-loop-content g l = record {
  same : g.C.Chunks.bytes l.content ≡ g.C.Chunks.bytes l.fn.content;
  sent : Sent (g.C.Chunks.bytes l.fn.content) (g.C.Chunks.left l.content) l.written (g.P.Place.state l.fn.place) (g.P.Place.state l.place);
}

abbrev pub decreases-loop-content : goal.decreases-loop-content
decreases-loop-content g l = length (g.C.Chunks.left l.content)
