use Rattle.std.proofs.Common.{sym, ◌∙◌}
use Rattle.reg_sense.proofs.OrderLemmas.{same_breaks}
use Rattle.reg_sense.proofs.laws.any_order_breaks_the_same_rules.Goals as goal

pub returns : goal.returns
returns c = λ rule ms ns vs ws v named same.
    let e = same_breaks rule ms ns vs ws v named same in
    (λ h. sym e ∙ h, λ h. e ∙ h)
