use Rattle.std.proofs.Common.{◌++◌, ◌≡◌, ◌≤◌, ◌-◌, vec_len}
use Rattle.std.specs.Io.KnownBytes.{Consumes}
use Rattle.byte_io.proofs.reading.read_up_to.Given as goal

abbrev pub invariant-loop-chunk : goal.invariant-loop-chunk
invariant-loop-chunk g l = record {
  given : (g.S.Source.state l.source).given ≡ (g.S.Source.state l.initial.source).given ++ l.bytes.items;
  front : Consumes (g.S.Source.state l.initial.source).left (g.S.Source.state l.source).left l.bytes.items;
  within : vec_len l.bytes ≤ l.most;
  quiet : (g.S.Source.state l.source).failures ≡ (g.S.Source.state l.initial.source).failures;
  going : (g.S.Source.state l.source).ends ≡ (g.S.Source.state l.initial.source).ends;
}

abbrev pub decreases-loop-chunk : goal.decreases-loop-chunk
decreases-loop-chunk g l = l.most - vec_len l.bytes
