use Rattle.std.proofs.Common.{sym}
use Rattle.reg_report.proofs.key.key_in.Goals as goal

pub returns : goal.returns
returns c = (c.key-key.result.now, c.key-key.ensures, λ j. record { authority = sym c.as_bytes.ensures j; code = sym c.as_bytes-2.ensures j })
