use Rattle.std.proofs.Common.{sym, ◌∙◌}
use Rattle.wkt_canonical.proofs.Wholes as wholes
use Rattle.wkt_canonical.proofs.canonical.is_canonical.Goals as goal

pub returns : goal.returns
returns c = λ h. wholes.is_canonical c.recognize.result c.args.bytes.now c.recognize.ensures (sym c.is_some.ensures ∙ h)
