use Rattle.std.proofs.Common.{◌∙◌, ap, map, ℕ}
use Rattle.std.proofs.lemmas.Result.{IfOk-weaker}
use Rattle.std.specs.Global.{Vec}
use Rattle.reg_sense.specs.Claimants.{voice}
use Rattle.reg_lint.proofs.DisputeLemmas.{told_of_claimants, silent}
use Rattle.reg_lint.proofs.details.wide_details.Goals as goal

pub returns-then-is_settled : goal.returns-then-is_settled
returns-then-is_settled c = λ ss are settled.
    IfOk-weaker c.no_details.result _ _ (λ made e. e ∙ silent c.args.disputes.now ss settled c.args.rule (c.is_settled.ensures c.if-is_settled.true)) (c.no_details.ensures ss are)

pub returns : goal.returns
returns c = λ ss are settled.
    c.in_ok-made.ensures
    ∙ told_of_claimants c.args.disputes.now ss settled c.args.rule (map (λ (name : Vec ℕ). name.items) c.deref.result.now) c.deref-2.result.now
    (ap (map (λ (name : Vec ℕ). name.items)) c.deref.ensures.value ∙ c.in_ok-names.ensures ss are)
    (ap (map voice) c.deref-2.ensures.value ∙ c.in_ok-claimants.ensures ss are)
