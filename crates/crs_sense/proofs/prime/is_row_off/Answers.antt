use Rattle.crs_sense.proofs.PrimeLemmas.{row_off}
use Rattle.crs_sense.proofs.prime.is_row_off.Goals as goal

pub returns-then-not-is_packed : goal.returns-then-not-is_packed
returns-then-not-is_packed c =
    row_off c.args.row.now c.size.result.now c.longitude.result.now c.args.value _ c.fixed.result c.begins.result c.is_off.result c.is_off.ensures c.fixed.ensures.value c.size.ensures c.begins.ensures c.longitude.ensures c.if-not-is_packed.ensures
