use Rattle.std.proofs.Common.{◌++◌, ◌≡◌, ◌≤◌, ◌-◌, length, take}
use Rattle.std.specs.Io.KnownBytes.{Appends}
use Rattle.byte_io.proofs.writing.write_all.Given as goal

abbrev pub invariant-loop-written : goal.invariant-loop-written
invariant-loop-written g l = record {
  taken : (g.K.Sink.state l.sink).taken ≡ (g.K.Sink.state l.initial.sink).taken ++ take l.written l.bytes;
  appended : Appends (g.K.Sink.state l.initial.sink).written (g.K.Sink.state l.sink).written (take l.written l.bytes);
  within : l.written ≤ length l.bytes;
  quiet : (g.K.Sink.state l.sink).failures ≡ (g.K.Sink.state l.initial.sink).failures;
  moved : (g.K.Sink.state l.sink).stalls ≡ (g.K.Sink.state l.initial.sink).stalls;
  openings : (g.K.Sink.state l.sink).openings ≡ (g.K.Sink.state l.initial.sink).openings;
}

abbrev pub decreases-loop-written : goal.decreases-loop-written
decreases-loop-written g l = length l.bytes - l.written
