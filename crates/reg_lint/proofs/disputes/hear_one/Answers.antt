use Rattle.std.proofs.Common.{OnOk, ap, ◌∙◌, subst}
use Rattle.crs_part.specs.declared.crs.CrsParts.{CrsParts}
use Rattle.crs_value.specs.declared.crs.Crs.{Crs}
use Rattle.reg_lint.specs.Disputes.{Hears}
use Rattle.reg_lint.proofs.disputes.hear_one.Goals as goal

pub returns : goal.returns
returns c = λ s is.
    subst (λ (p : CrsParts). OnOk c.hear.result (Hears p c.args.made.now c.hear.new.self)) (c.parts.ensures ∙ ap (λ (v : Crs). v.parts) (c.as_ref.ensures ∙ c.in_ok-crs.ensures s is)) c.hear.ensures
