use Rattle.std.proofs.Common.{◌∙◌}
use Rattle.crs_number.specs.Value.{units}
use Rattle.crs_export.specs.Boxes.{is_less, value_of}
use Rattle.crs_export.proofs.ends.is_west.Goals as goal

pub returns : goal.returns
returns c = c.is_less.ensures ∙ (λ j. is_less (value_of c.args.decimal.now) (units (c.half_turn.ensures.coefficient j) (c.half_turn.ensures.exponent j)))
