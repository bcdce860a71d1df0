use Rattle.wkt_canonical.proofs.DigitRuns.{all_digits, first_other}
use Rattle.wkt_canonical.proofs.digits.digit_run.Goals as goal

pub returns-then-others-eq0 : goal.returns-then-others-eq0
returns-then-others-eq0 c = all_digits c.args.bytes.now c.requires (λ k. (c.type_inv.bytes k).fits) c.if-others-eq0.true

pub returns-else-others-eq0 : goal.returns-else-others-eq0
returns-else-others-eq0 c = first_other c.args.bytes.now c.requires (λ k. (c.type_inv.bytes k).fits) c.if-others-eq0.false
