use Rattle.std.proofs.Common.{◌∙◌}
use Rattle.wkt_crs.proofs.Texts.{one_value}
use Rattle.reg_lint.proofs.kept.of_text.Goals as goal

pub returns : goal.returns
returns c = λ crs spelled. c.in_ok-made.ensures ∙ one_value c.args.text.now c.in-Ok.crs crs c.in-Ok.ensures.found spelled
