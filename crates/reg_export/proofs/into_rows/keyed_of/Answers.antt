use Rattle.std.proofs.Common.{sym}
use Rattle.reg_export.proofs.into_rows.keyed_of.Goals as goal

pub returns : goal.returns
returns c = (
  (c.key-key.result.now, c.key-key.ensures, λ j. record { authority = sym c.as_bytes.ensures j; code = sym c.as_bytes-2.ensures j }),
  c.as_bytes-3.ensures.bytes,
)
