use Rattle.std.proofs.Common.{take, map}
use Rattle.reg_export.specs.Kept.{row_at}
use Rattle.reg_export.proofs.BeginLemmas.{HasFeatures}
use Rattle.reg_export.proofs.geojson.write_rows.Given as goal

abbrev pub invariant-loop-row : goal.invariant-loop-row
invariant-loop-row g l =
    HasFeatures l.initial.waiting.items (map row_at (take l.row-index l.rows)) (g.K.Sink.state l.initial.sink) (g.K.Sink.state l.sink) l.waiting.items l.behind l.written
