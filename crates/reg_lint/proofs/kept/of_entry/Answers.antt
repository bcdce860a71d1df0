use Rattle.std.proofs.Common.{◌∙◌}
use Rattle.wkt_crs.proofs.Texts.{one_value}
use Rattle.reg_lint.proofs.kept.of_entry.Goals as goal

pub returns : goal.returns
returns c = λ crs spelled. c.in_ok-made.ensures ∙ one_value c.args.definition.now c.in_ok-crs.crs crs c.in_ok-crs.ensures.1 spelled
