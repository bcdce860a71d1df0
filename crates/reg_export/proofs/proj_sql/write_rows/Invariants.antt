use Rattle.std.proofs.Common.{take, map}
use Rattle.reg_export.specs.Kept.{row_at}
use Rattle.reg_export.proofs.BeginLemmas.{HasStatements}
use Rattle.reg_export.proofs.proj_sql.write_rows.Given as goal

abbrev pub invariant-loop-row : goal.invariant-loop-row
invariant-loop-row g l =
    HasStatements l.initial.waiting.items l.all (map row_at (take l.row-index l.rows)) l.held (g.K.Sink.state l.initial.sink) (g.K.Sink.state l.sink) l.waiting.items l.written
