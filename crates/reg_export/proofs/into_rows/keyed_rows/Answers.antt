use Rattle.std.proofs.Common.{subst}
use Rattle.reg_export.specs.KeyFiles.{keyed}
use Rattle.reg_export.specs.Kept.{row_at}
use Rattle.reg_export.specs.IntoFiles.{IsKeyedOf}
use Rattle.reg_export.proofs.RowLemmas.{zip_more}
use Rattle.reg_export.proofs.into_rows.keyed_rows.Goals as goal

pub loop-row-preserved : goal.loop-row-preserved
loop-row-preserved c =
    zip_more row_at keyed IsKeyedOf c.args.rows.now c.loop-row.made.items c.push.new.self.items c.loop-row.row-index c.row-item.result c.keyed_of.result c.loop-row-test.true c.loop-row.invariant
    (subst (λ r. IsKeyedOf (row_at r) (keyed c.keyed_of.result)) c.row-item.is c.keyed_of.ensures) c.in_ok-push.ensures.items
